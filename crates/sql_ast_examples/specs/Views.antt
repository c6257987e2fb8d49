-- Texts about views, and what they read as.
use Rattle.std.specs.Prelude.{List, [], ◌∷◌, true, false, Some, None, codes}
use Rattle.sql_ast.specs.declared.view.Item.TheVariants.{All, AllOf}
use Rattle.sql_ast_examples.specs.Values.{own, of_schema, item_of, source, query}
use Rattle.sql_ast_examples.specs.Statements.{create_view, drop_view, show_create_view}
use Rattle.sql_ast_examples.specs.Example.{Example, ◌means◌}

-- views
abbrev pub views : List Example
views =
    ("CREATE VIEW v AS SELECT id, n AS m FROM t" means create_view (own "v") None (query ((item_of None "id" None) ∷ (item_of None "n" (Some (codes "m"))) ∷ []) ((source (own "t") None) ∷ [])))
    ∷ ("CREATE VIEW order_skus AS SELECT o.id, l.sku FROM orders o, order_lines l" means create_view (own "order_skus") None (query ((item_of (Some (codes "o")) "id" None) ∷ (item_of (Some (codes "l")) "sku" None) ∷ []) ((source (own "orders") (Some (codes "o"))) ∷ (source (own "order_lines") (Some (codes "l"))) ∷ [])))
    ∷ ("CREATE ALGORITHM=UNDEFINED DEFINER=`root`@`localhost` SQL SECURITY DEFINER VIEW `v` AS select `t`.`id` AS `id`,`t`.`n` AS `m` from `d`.`t`" means create_view (own "v") None (query ((item_of (Some (codes "t")) "id" (Some (codes "id"))) ∷ (item_of (Some (codes "t")) "n" (Some (codes "m"))) ∷ []) ((source (of_schema "d" "t") None) ∷ [])))
    ∷ ("CREATE VIEW v1 AS SELECT * FROM t" means create_view (own "v1") None (query (All ∷ []) ((source (own "t") None) ∷ [])))
    ∷ ("CREATE VIEW d.v (x, y) AS SELECT a b, c.* FROM d.t AS c" means create_view (of_schema "d" "v") (Some (codes "x" ∷ codes "y" ∷ [])) (query ((item_of None "a" (Some (codes "b"))) ∷ (AllOf (codes "c")) ∷ []) ((source (of_schema "d" "t") (Some (codes "c"))) ∷ [])))
    ∷ ("CREATE DEFINER = root @ 'localhost' VIEW v AS SELECT *, a.b c FROM t AS a, t" means create_view (own "v") None (query (All ∷ (item_of (Some (codes "a")) "b" (Some (codes "c"))) ∷ []) ((source (own "t") (Some (codes "a"))) ∷ (source (own "t") None) ∷ [])))
    ∷ ("CREATE SQL SECURITY DEFINER VIEW v AS SELECT a FROM t" means create_view (own "v") None (query ((item_of None "a" None) ∷ []) ((source (own "t") None) ∷ [])))
    ∷ ("DROP VIEW v" means drop_view false ((own "v") ∷ []))
    ∷ ("DROP VIEW IF EXISTS v, d.w" means drop_view true ((own "v") ∷ (of_schema "d" "w") ∷ []))
    ∷ ("SHOW CREATE VIEW v" means show_create_view (own "v"))
    ∷ []
