-- What follows for foreign keys from a step of the actions.
use Rattle.std.specs.Prelude.{◌≡◌, Bool, true, not, List, [], ◌∷◌, refl}
use Rattle.std.specs.List.{list_all, AllByRecursion}
use Rattle.std.proofs.Common.{sym, ◌∙◌, ap, subst, inl, inr}
use Rattle.std.proofs.lemmas.Bool.{or_cases, or_left, or_right}
use Rattle.dd_names.specs.declared.object_name.ObjName.{ObjName}
use Rattle.dd_definitions.specs.ForeignKeys.{has_index_on}
use Rattle.dd_definitions.specs.declared.foreign_keys.ForeignKeyDef.{ForeignKeyDef}
use Rattle.dd_definitions.specs.declared.indexes.IndexDef.{IndexDef}
use Rattle.dd_definitions.specs.declared.parts.TableParts.{TableParts}
use Rattle.dd_catalog.specs.Catalog.{is_same_object}
use Rattle.dd_catalog.specs.WalkLaws.{Look}
use Rattle.rules_create.proofs.Lists.{all_weaker}
use Rattle.rules_alter.specs.Altering.{with_parts}
use Rattle.rules_alter.specs.Arranged.{arranged}
use Rattle.rules_alter.specs.declared.states.Altering.{Altering}
use Rattle.rules_alter.specs.declared.states.Child.{Child}
use Rattle.rules_alter_laws.proofs.Arranged.{IsArranged, is_arranged}
use Rattle.rules_alter_laws.proofs.Kept.{Leads, leads_alike}
use Rattle.rules_alter_keys_laws.specs.Children.{AreChildrenOf}
use Rattle.rules_alter_keys_laws.specs.Grounds.{is_grounded, IsGrounded}
use Rattle.rules_alter_keys_laws.specs.Led.{is_led, are_led, IsLed}
use Rattle.rules_alter_keys_laws.proofs.Relation.{children_themselves, children_through}

-- what an action keeps of foreign keys
pub record IsFollowed (look : Look) (state next : Altering) : Type 0 where
  pub name : next.parts.name ≡ state.parts.name
  pub led : IsLed state → IsLed next
  pub grounded : IsGrounded look state → IsGrounded look next
  pub children : AreChildrenOf state.parts.name state.children next.children

pub followed_itself : (look : Look) (state : Altering) → IsFollowed look state state
followed_itself look state = record { name = refl; led = λ led. led; grounded = λ grounded. grounded; children = children_themselves state.parts.name state.children }

pub followed_through : (look : Look) (first second third : Altering) → IsFollowed look first second → IsFollowed look second third → IsFollowed look first third
followed_through look first second third one two = record {
  name = two.name ∙ one.name;
  led = λ led. two.led (one.led led);
  grounded = λ grounded. two.grounded (one.grounded grounded);
  children = children_through first.parts.name first.children second.children third.children one.children
      (subst (λ table. AreChildrenOf table second.children third.children) one.name two.children);
}

-- ## Steps that change the table alone

-- a foreign key that is new to the table
pub record IsAddedKey (look : Look) (parts : TableParts) (key : ForeignKeyDef) : Type 0 where
  pub led : is_led parts.name parts.indexes key ≡ true
  pub grounded : is_grounded look parts.name key ≡ true

-- indexes still begin with what they began with, and each foreign key was there or is a good new one
pub record IsTableOnly (look : Look) (state next : Altering) : Type 0 where
  pub name : next.parts.name ≡ state.parts.name
  pub children : next.children ≡ state.children
  pub leads : Leads state.parts.indexes next.parts.indexes
  pub keys : (p : ForeignKeyDef → Bool) → ((key : ForeignKeyDef) → IsAddedKey look next.parts key → p key ≡ true) → list_all p state.parts.foreign_keys ≡ true → list_all p next.parts.foreign_keys ≡ true

-- where no foreign key is new
pub same_keys : (look : Look) (state next : Altering) → next.parts.name ≡ state.parts.name → next.children ≡ state.children → Leads state.parts.indexes next.parts.indexes → next.parts.foreign_keys ≡ state.parts.foreign_keys → IsTableOnly look state next
same_keys look state next name children leads keys = record { name = name; children = children; leads = leads; keys = λ p added all. ap (list_all p) keys ∙ all }

led_stays : (table name : ObjName) (indexes others : List IndexDef) → name ≡ table → Leads indexes others → (key : ForeignKeyDef) → is_led table indexes key ≡ true → is_led name others key ≡ true
led_stays table name indexes others same leads key led = ap (λ n. is_led n others key) same ∙ elim (or_cases (not (is_same_object key.parent table)) (has_index_on indexes key.parent_columns) led) [
  | inl other ↦ or_left (not (is_same_object key.parent table)) (has_index_on others key.parent_columns) other
  | inr has ↦ or_right (not (is_same_object key.parent table)) (has_index_on others key.parent_columns) (leads.on key.parent_columns has)
]

pub all_more : {X : Type 0} (P Q : X → Type 0) → ((x : X) → P x → Q x) → (xs : List X) → AllByRecursion P xs → AllByRecursion Q xs
all_more P Q gives [] all = tt
all_more P Q gives (x ∷ xs) all = (gives x all.0, all_more P Q gives xs all.1)

pub table_follows : (look : Look) (state next : Altering) → IsTableOnly look state next → IsFollowed look state next
table_follows look state next only = record {
  name = only.name;
  led = λ led. record {
    own = only.keys (is_led next.parts.name next.parts.indexes) (λ key added. added.led)
        (all_weaker (is_led state.parts.name state.parts.indexes) (is_led next.parts.name next.parts.indexes) (led_stays state.parts.name next.parts.name state.parts.indexes next.parts.indexes only.name only.leads) state.parts.foreign_keys led.own);
    children = subst (λ children. AllByRecursion (λ (child : Child). are_led next.parts.name next.parts.indexes child.parts.foreign_keys ≡ true) children) (sym only.children)
        (all_more (λ (child : Child). are_led state.parts.name state.parts.indexes child.parts.foreign_keys ≡ true) (λ (child : Child). are_led next.parts.name next.parts.indexes child.parts.foreign_keys ≡ true)
        (λ child is. all_weaker (is_led state.parts.name state.parts.indexes) (is_led next.parts.name next.parts.indexes) (led_stays state.parts.name next.parts.name state.parts.indexes next.parts.indexes only.name only.leads) child.parts.foreign_keys is)
        state.children led.children);
  };
  grounded = λ grounded. record {
    own = only.keys (is_grounded look next.parts.name) (λ key added. added.grounded) (ap (λ n. list_all (is_grounded look n) state.parts.foreign_keys) only.name ∙ grounded.own);
  };
  children = subst (AreChildrenOf state.parts.name state.children) (sym only.children) (children_themselves state.parts.name state.children);
}

-- the indexes in their order
pub arranged_only : (look : Look) (before : TableParts) (state : Altering) → IsTableOnly look state (with_parts state (arranged before state.parts))
arranged_only look before state =
    let there : IsArranged state.parts (arranged before state.parts) = is_arranged before state.parts in
    same_keys look state (with_parts state (arranged before state.parts)) (ap (λ (p : TableParts). p.name) (sym there.is)) refl
    (subst (λ (p : TableParts). Leads state.parts.indexes p.indexes) {x = record state.parts { indexes = there.indexes }} there.is (leads_alike state.parts.indexes there.indexes there.alike)) (ap (λ (p : TableParts). p.foreign_keys) (sym there.is))
