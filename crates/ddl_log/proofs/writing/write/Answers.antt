use Rattle.std.proofs.Common.{◌∙◌}
use Rattle.ddl_log.proofs.Bodies.{written}
use Rattle.ddl_log.proofs.writing.write.Goals as goal

pub returns : goal.returns
returns c =
    written _ _ _ _ _ _ c.args.item.now c.in_ok-push_head.ensures c.in_ok-push_path.ensures c.in_ok-push_path-2.ensures
    (c.as_bytes.ensures.value ∙ c.as_str.ensures.text) (c.as_bytes-2.ensures.value ∙ c.as_str-2.ensures.text)
