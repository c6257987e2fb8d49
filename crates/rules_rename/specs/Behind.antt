-- A check behind changes comes to what it comes to over a look-up that shows what stands behind them.
use Rattle.std.specs.Prelude.{◌≡◌, Some, None, refl}
use Rattle.std.specs.Option.{option_map}
use Rattle.dd_catalog.specs.Walks.{Walk, done, refuse, ask, told, run}
use Rattle.dd_catalog.specs.WalkLaws.{Look}
use Rattle.rules_rename.specs.Overlays.{Overlay, seen_behind, behind_changes}

-- what is known at a key behind the changes
abbrev pub look_behind : Overlay → Look → Look
look_behind overlay look key = option_map (seen_behind overlay key) (look key)

pub run_behind : {E A : Type 0} (overlay : Overlay) (look : Look) (check : Walk E A) → run look (behind_changes overlay check) ≡ run (look_behind overlay look) check
run_behind overlay look (done x) = refl
run_behind overlay look (refuse e) = refl
run_behind {E = E} {A = A} overlay look (ask key go) =
    elim (look key) as (λ known. told {E = E} {A = A} known key (λ seen. run look (behind_changes overlay (go (seen_behind overlay key seen)))) ≡ told {E = E} {A = A} (option_map (seen_behind overlay key) known) key (λ seen. run (look_behind overlay look) (go seen))) [
      | None ↦ refl
      | Some seen ↦ run_behind overlay look (go (seen_behind overlay key seen))
    ]
