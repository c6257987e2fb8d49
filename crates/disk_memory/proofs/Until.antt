-- The record up to a moment, as its events.
use Rattle.std.proofs.Common.{◌≡◌, ℕ, ◌+◌, ◌<◌, Bool, true, false, cond, List, [], ◌∷◌, ◌++◌, map, reverse, length, take, get_or, refl, sym, ◌∙◌, ap}
use Rattle.std.specs.Prelude.{filter, nat_le}
use Rattle.std.proofs.lemmas.Bool.{cases_Bool}
use Rattle.std.proofs.lemmas.List.{reverse-append, map-append, take_more, append-nil}
use Rattle.std.proofs.lemmas.List.Elements.{filter-append}
use Rattle.disk_trait.specs.Crash.{Events, Event}
use Rattle.disk_memory.specs.Record.{event_of, events_of, with_event}
use Rattle.disk_memory.specs.Shown.{until}
use Rattle.disk_memory.specs.declared.record.Entry.{Entry}

events-more : (entry : Entry) (entries : List Entry) → events_of (entry ∷ entries) ≡ events_of entries ++ (event_of entry ∷ [])
events-more entry entries = reverse-append (event_of entry ∷ []) (map event_of entries)

one-of : (last : ℕ) (entry : Entry) (b : Bool) → (entries : List Entry) → events_of (cond b (entry ∷ entries) entries) ≡ events_of entries ++ cond b (event_of entry ∷ []) []
one-of last entry true entries = events-more entry entries
one-of last entry false entries = sym (append-nil (events_of entries))

pub events-until : (last : ℕ) (entries : List Entry) → events_of (filter (λ e. nat_le e.moment last) entries) ≡ until last (events_of entries)
events-until last [] = refl
events-until last (entry ∷ entries) =
    let kept = filter (λ (e : Entry). nat_le e.moment last) entries in
    one-of last entry (nat_le entry.moment last) kept
    ∙ ap (λ (events : Events). events ++ cond (nat_le entry.moment last) (event_of entry ∷ []) []) (events-until last entries)
    ∙ sym (filter-append (λ (e : ℕ × Event). nat_le e.0 last) (events_of entries) (event_of entry ∷ []))
    ∙ ap (until last) (sym (events-more entry entries))

events-last : (entries : List Entry) (entry : Entry) → events_of (entries ++ (entry ∷ [])) ≡ event_of entry ∷ events_of entries
events-last entries entry = ap reverse (map-append event_of entries (entry ∷ [])) ∙ reverse-append (map event_of entries) (event_of entry ∷ [])

one-last : (b : Bool) (entries : List Entry) (entry : Entry) → events_of (entries ++ cond b (entry ∷ []) []) ≡ cond b (event_of entry ∷ events_of entries) (events_of entries)
one-last true entries entry = events-last entries entry
one-last false entries entry = ap events_of (append-nil entries)

-- one more call, as at a step of a loop
pub replay-more : (last : ℕ) (entries : List Entry) (i : ℕ) (d : Entry) → i < length entries
    → events_of (filter (λ e. nat_le e.moment last) (take (i + 1) entries)) ≡ with_event last (get_or entries i d) (events_of (filter (λ e. nat_le e.moment last) (take i entries)))
replay-more last entries i d lt =
    let entry = get_or entries i d in
    ap (λ (es : List Entry). events_of (filter (λ (e : Entry). nat_le e.moment last) es)) (take_more entries i d lt)
    ∙ ap events_of (filter-append (λ (e : Entry). nat_le e.moment last) (take i entries) (entry ∷ []))
    ∙ one-last (nat_le entry.moment last) (filter (λ (e : Entry). nat_le e.moment last) (take i entries)) entry
