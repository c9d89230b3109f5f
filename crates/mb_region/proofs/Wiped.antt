-- How many write calls it takes to replace a region and to wipe the old one.
use Rattle.std.proofs.Common.{◌≡◌, ℕ, inl, inr, List, [], ◌∷◌, length, Result, Ok, Err, refl, sym, ap, subst, ◌∙◌, arith}
use Rattle.std.proofs.lemmas.List.Elements.{All-cons, All-head, All-tail}
use Rattle.mb_model.specs.declared.region.Region.{Region}
use Rattle.mb_model.specs.declared.region.RegionKey.{RegionKey}
use Rattle.mb_model.specs.declared.region.Secret.{Secret}
use Rattle.mb_model.specs.memories.Meaning.{HoldsRegion}
use Rattle.mb_model.specs.memories.Memory.{IsBlank, area_of_slot, inactive_area_of_slot, HoldsInArea}
use Rattle.mb_model.specs.owners.Regions.{empty_region}
use Rattle.mb_model.specs.records.RegionFormat.{region_format, region_by, secrets_format, keys_format, SpellsRegion}
use Rattle.mb_model.specs.outside.Board.{Meter}
use Rattle.mb_board.specs.Calls.{Seen}
use Rattle.mb_slot.specs.Slots.{MakesWrites, WritesNothing, counted_writes}
use Rattle.mb_layout.proofs.Areas.{one_held}
use Rattle.mb_layout_edits.proofs.RegionParts.{empty_stands}
use Rattle.mb_region.specs.Regions.{writes_over, writes_over_all}

-- ---- an area is all zero exactly if it holds the empty region

no_record : (version : ℕ) → region_format.Allowed (version, empty_region) → ⊥
unfolding region_format region_by secrets_format keys_format
no_record version allowed = omega (arith, allowed.1.1.0.0)

empty_spelled : (bytes : List ℕ) (region : Region) → region ≡ empty_region → SpellsRegion bytes region → bytes ≡ []
empty_spelled bytes region same (inl none) = none.0
empty_spelled bytes region same (inr spelled) = absurd (no_record spelled.version (subst (λ (r : Region). region_format.Allowed (spelled.version, r)) same spelled.spelled.allowed))

abbrev IsZero : ℕ → Type 0
IsZero byte = byte ≡ 0

no_bytes_blank : (area bytes : List ℕ) → bytes ≡ [] → HoldsInArea area bytes → IsBlank area
no_bytes_blank area bytes none holds =
    let here : HoldsInArea area [] = subst (HoldsInArea area) none holds in
    subst IsBlank (sym here.whole) (All-cons IsZero 0 (0 ∷ here.rest) refl (All-cons IsZero 0 here.rest refl here.blank))

zeros_hold : (a b : ℕ) (area rest : List ℕ) → area ≡ a ∷ b ∷ rest → IsBlank area → HoldsInArea area []
zeros_hold a b area rest whole blank =
    let zeros : IsBlank (a ∷ b ∷ rest) = subst IsBlank whole blank in
    let tail : IsBlank (b ∷ rest) = All-tail IsZero a (b ∷ rest) zeros in
    record {
      rest = rest;
      short = omega arith;
      whole = whole ∙ ap (λ (n : ℕ). n ∷ b ∷ rest) (All-head IsZero a (b ∷ rest) zeros) ∙ ap (λ (n : ℕ). 0 ∷ n ∷ rest) (All-head IsZero b rest tail);
      blank = All-tail IsZero b rest tail;
    }

pub empty_is_blank : (area : List ℕ) (region : Region) → HoldsRegion area region → region ≡ empty_region → IsBlank area
empty_is_blank area region has same = no_bytes_blank area has.bytes (empty_spelled has.bytes region same has.spelled) has.holds

pub blank_is_empty : (area : List ℕ) (region : Region) → HoldsRegion area region → IsBlank area → region ≡ empty_region
blank_is_empty area region has blank =
    empty_stands (ap length (one_held has.bytes [] has.holds (zeros_hold _ _ area _ has.holds.whole blank))) region has.spelled

-- ---- a commit, and then a wipe

by_contents : {A E : Type 0} (secrets : List Secret) (keys : List RegionKey) (result : Result A E) (before after : Seen) → (secrets ≡ [] → keys ≡ [] → MakesWrites 2 result before after)
    → ((secrets ≡ [] → keys ≡ [] → ⊥) → MakesWrites 3 result before after) → MakesWrites (writes_over_all secrets keys) result before after
by_contents [] [] result before after two three = two refl refl
by_contents [] (key ∷ keys) result before after two three = three (λ s k. omega (arith, ap length k))
by_contents (secret ∷ secrets) keys result before after two three = three (λ s k. omega (arith, ap length s))

no_more : {B F : Type 0} (result : Result B F) (before between after : Seen) → between.meter.writes ≡ counted_writes 2 before.meter.writes → WritesNothing result between after → MakesWrites 2 result before after
no_more (Ok value) before between after first idle = ap (λ (m : Meter). m.writes) idle.2 ∙ first
no_more (Err stop) before between after first idle = tt

one_more : {B F : Type 0} (result : Result B F) (before between after : Seen) → between.meter.writes ≡ counted_writes 2 before.meter.writes → MakesWrites 1 result between after → MakesWrites 3 result before after
one_more (Ok value) before between after first second = second ∙ ap (counted_writes 1) first
one_more (Err stop) before between after first second = tt

-- two write calls have replaced the region, and what they left of it was wiped
pub put_writes : {B F : Type 0} (slot : ℕ) (old : Region) (result : Result B F) (before between after : Seen) → HoldsRegion (area_of_slot before.memory.bbram slot) old
    → inactive_area_of_slot between.memory.bbram slot ≡ area_of_slot before.memory.bbram slot → between.meter.writes ≡ counted_writes 2 before.meter.writes
    → (IsBlank (inactive_area_of_slot between.memory.bbram slot) → WritesNothing result between after) → ((IsBlank (inactive_area_of_slot between.memory.bbram slot) → ⊥) → MakesWrites 1 result between after)
    → MakesWrites (writes_over old) result before after
put_writes slot old result before between after has left first idle wipes = by_contents old.secrets old.keys result before after
    (λ s k. no_more result before between after first (idle (subst IsBlank (sym left) (empty_is_blank _ old has (is_empty s k)))))
    (λ some. one_more result before between after first (wipes (λ blank. not_empty some (blank_is_empty _ old has (subst IsBlank left blank)))))
  where
    is_empty : old.secrets ≡ [] → old.keys ≡ [] → old ≡ empty_region
    is_empty s k = ap (λ (secrets : List Secret). let r : Region = record { secrets = secrets; keys = old.keys } in r) s ∙ ap (λ (keys : List RegionKey). let r : Region = record { secrets = []; keys = keys } in r) k

    not_empty : (old.secrets ≡ [] → old.keys ≡ [] → ⊥) → old ≡ empty_region → ⊥
    not_empty some same = some (ap (λ (r : Region). r.secrets) same) (ap (λ (r : Region). r.keys) same)
