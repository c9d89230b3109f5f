-- What a fact adds, made piece by piece, is all that it adds.
use Rattle.std.proofs.Common.{◌≡◌, ◌≤◌, ◌+◌, ◌*◌, ℕ, List, [], ◌∷◌, ◌++◌, Bool, true, false, refl, sym, ap, subst, ◌∙◌, arith}
use Rattle.std.specs.Prelude.{Option, if◌then◌else◌}
use Rattle.mb_model.specs.declared.key.KeySeed.{KeySeed}
use Rattle.mb_model.specs.declared.entry.Entry.{Entry}
use Rattle.mb_model.specs.declared.region.RegionKey.{RegionKey}
use Rattle.mb_model.specs.declared.state.Bodies.{Bodies}
use Rattle.mb_model.specs.declared.state.View.{View}
use Rattle.mb_model.specs.declared.state.Fact.{Fact}
use Rattle.mb_model.specs.declared.stored.Outgoing.{Outgoing}
use Rattle.mb_model.specs.owners.Log.{keys_in, keys_made_by}
use Rattle.mb_model.specs.machine.OrderChecks.{succession_is_due, needed_with}
use Rattle.mb_model.specs.machine.OrderEffects.{names_next, entry_of, succession_entry, device_after, uses_after}
use Rattle.mb_model.specs.machine.Work.{ready_by, first_by, key_by, outgoing_by, bodies_by}
use Rattle.mb_model_lemmas.proofs.LogLemmas.{made-push}
use Rattle.mb_lms.specs.declared.hash_count.TheConstants.{TREE_HASHES}
use Rattle.mb_signer.specs.declared.bench.Bench.{Bench}
use Rattle.mb_signer.specs.Benches.{IsBare, HasRoom}

pub bodies_made : (draw : List ℕ) (view ready : View) (fact : Fact) (names : Bool) (none items entries : List Entry) (own : Entry) (device : KeySeed) (uses : ℕ) (outgoing : Option Outgoing) (key : Option RegionKey)
    → names ≡ names_next fact → ready ≡ ready_by view names draw
    → none ≡ [] → items ≡ none ++ first_by view names draw → entries ≡ items ++ own ∷ []
    → own ≡ entry_of ready fact draw → device ≡ device_after (names_next fact) ready draw → uses ≡ uses_after (names_next fact) ready
    → outgoing ≡ outgoing_by view names → key ≡ key_by ready fact draw
    → ◌≡◌ {A = Bodies} (record { entries = entries; device = device; uses = uses; outgoing = outgoing; key = key }) (bodies_by view fact draw)
unfolding bodies_by
bodies_made draw view ready fact names none items entries own device uses outgoing key names_are ready_is none_is items_are entries_are own_is device_is uses_are outgoing_is key_is = cc

-- at most one of the two pieces puts a tree on the bench
pub room_left : (next : Bool) (old between new : Bench) → (next ≡ true → between ≡ old) → (IsBare old → HasRoom between) → (next ≡ false → new ≡ between) → (IsBare between → HasRoom new) → IsBare old → HasRoom new
room_left true old between new stays room same own bare = own (subst IsBare (sym (stays refl)) bare)
room_left false old between new stays room same own bare = subst HasRoom (sym (same refl)) (room bare)

-- the trees of the two pieces are those of the keys that all entries name
pub trees_counted : (none items first entries : List Entry) (own : Entry) (before between after : ℕ) → none ≡ [] → items ≡ none ++ first → entries ≡ items ++ own ∷ [] → between ≤ before + keys_made_by first * TREE_HASHES
    → after ≤ between + keys_in own * TREE_HASHES → after ≤ before + keys_made_by entries * TREE_HASHES
trees_counted none items first entries own before between after none_is items_are entries_are one two =
    let items_first : items ≡ first = items_are ∙ ap (λ (es : List Entry). es ++ first) none_is in
    let counted : keys_made_by entries ≡ keys_made_by first + keys_in own = ap keys_made_by entries_are ∙ made-push items own ∙ ap (λ (es : List Entry). keys_made_by es + keys_in own) items_first in
    omega (arith, counted, one, two)

-- a succession names one key
succession_by : (due : Bool) (view : View) (draw : List ℕ) (before after : ℕ) → (◌≡◌ {A = ℕ} (if due then 2 else 1) 1 → ⊥) → after ≤ before + TREE_HASHES → after ≤ before + keys_made_by (if due then succession_entry view draw ∷ [] else []) * TREE_HASHES
unfolding keys_made_by
succession_by true view draw before after two cost = omega (arith, cost)
succession_by false view draw before after two cost = absurd (two refl)

pub succession_counted : (view : View) (next : Bool) (draw : List ℕ) (before after : ℕ) → (needed_with view.uses next ≡ 1 → ⊥) → after ≤ before + TREE_HASHES → after ≤ before + keys_made_by (first_by view next draw) * TREE_HASHES
succession_counted view next draw before after two cost = succession_by (succession_is_due view.uses next) view draw before after two cost
