-- A session's records are exchanged among those of the others.
use Rattle.std.proofs.Common.{inl, inr, ℕ, List, [], ◌∷◌, ◌++◌, refl}
use Rattle.std.specs.List.{AllByRecursion}
use Rattle.ddl_log.specs.declared.records.Kind.{Kind}
use Rattle.ddl_log.specs.declared.records.Kind.TheVariants.{DeleteSpace, RenameSpace, WriteSdi}
use Rattle.ddl_log.specs.declared.records.LogRecord.{LogRecord}
use Rattle.ddl_log.specs.Effect.{IsFree, IsApart}
use Rattle.ddl_log.proofs.Effects.{old_free}
use Rattle.dict_store_laws.specs.System.{IsOrdinary}
use Rattle.dict_store_laws.specs.Recovers.{IsLastAt, AreLast, IsOrderly}
use Rattle.dict_store_laws.proofs.Stripped.{each_front, each_back, each_both}
use Rattle.dict_flight_laws.specs.Flight.{In, AreClear}
use Rattle.dict_flight_laws.proofs.Lists.{apart_of, clear_sym}

pub free_both : (p : List ℕ) (xs ys : List LogRecord) → IsFree p xs → IsFree p ys → IsFree p (xs ++ ys)
free_both p [] ys one two = two
free_both p (x ∷ xs) ys one two = (one.0, free_both p xs ys one.1 two)

pub free_parts : (p : List ℕ) (xs ys : List LogRecord) → IsFree p (xs ++ ys) → IsFree p xs × IsFree p ys
free_parts p [] ys it = (tt, it)
free_parts p (x ∷ xs) ys it = let rest = free_parts p xs ys it.1 in ((it.0, rest.0), rest.1)

-- no record of a list that is clear of a record names its old path
pub clear_free : (item : LogRecord) (ys : List LogRecord) → ((y : LogRecord) → In ys y → IsApart item (y ∷ [])) → IsFree item.old_path ys
clear_free item ys all = old_free item.kind item.old_path item.new_path ys (apart_of item ys all)

last_more : (kind : Kind) (p : List ℕ) (xs ys : List LogRecord) → IsLastAt kind p xs → IsFree p ys → IsLastAt kind p (xs ++ ys)
last_more DeleteSpace p xs ys one two = tt
last_more RenameSpace p xs ys one two = tt
last_more WriteSdi p xs ys one two = free_both p xs ys one two

last_swap : (kind : Kind) (p : List ℕ) (xs old new later : List LogRecord) → IsLastAt kind p (xs ++ (old ++ later)) → IsFree p new → IsLastAt kind p (xs ++ (new ++ later))
last_swap DeleteSpace p xs old new later it is_free = tt
last_swap RenameSpace p xs old new later it is_free = tt
last_swap WriteSdi p xs old new later it is_free =
    let a = free_parts p xs (old ++ later) it in
    let b = free_parts p old later a.1 in
    free_both p xs (new ++ later) a.0 (free_both p new later is_free b.1)

last_join : (new later : List LogRecord) → AreLast new → AreLast later → AreClear new later → AreLast (new ++ later)
last_join [] later one two clear = two
last_join (x ∷ xs) later one two clear = (
  last_more x.kind x.old_path xs later one.0 (clear_free x later (λ y it. clear x y (inl refl) it)),
  last_join xs later one.1 two (λ a b in_a in_b. clear a b (inr in_a) in_b),
)

last_rest : (xs ys : List LogRecord) → AreLast (xs ++ ys) → AreLast ys
last_rest [] ys it = it
last_rest (x ∷ xs) ys it = last_rest xs ys it.1

last_exchange : (earlier old new later : List LogRecord) → AreLast (earlier ++ (old ++ later)) → AreLast new → AreClear new earlier → AreClear new later → AreLast (earlier ++ (new ++ later))
last_exchange [] old new later it own one two = last_join new later own (last_rest old later it) two
last_exchange (x ∷ xs) old new later it own one two = (
  last_swap x.kind x.old_path xs old new later it.0 (clear_free x new (λ y in_y. clear_sym y x (one y x in_y (inl refl)))),
  last_exchange xs old new later it.1 own (λ a b in_a in_b. one a b in_a (inr in_b)) two,
)

ordinary_of : (xs : List LogRecord) → ((x : LogRecord) → In xs x → IsOrdinary x) → AllByRecursion IsOrdinary xs
ordinary_of [] all = tt
ordinary_of (x ∷ xs) all = (all x (inl refl), ordinary_of xs (λ y it. all y (inr it)))

pub exchanged : (earlier old new later : List LogRecord) → IsOrderly (earlier ++ (old ++ later)) → ((x : LogRecord) → In new x → IsOrdinary x) → AreLast new → AreClear new earlier → AreClear new later → IsOrderly (earlier ++ (new ++ later))
exchanged earlier old new later it ordinary own one two = record {
  ordinary =
      each_both IsOrdinary earlier (new ++ later) (each_front IsOrdinary earlier (old ++ later) it.ordinary)
      (each_both IsOrdinary new later (ordinary_of new ordinary) (each_back IsOrdinary old later (each_back IsOrdinary earlier (old ++ later) it.ordinary)));
  last = last_exchange earlier old new later it.last own one two;
}
