-- A memory stands for one state only.
use Rattle.std.proofs.Common.{◌≡◌, ◌≤◌, ℕ, ◌+◌, ◌*◌, List, [], ◌∷◌, ◌++◌, inl, inr, length, drop, Option, Some, true, false, refl, sym, ap, subst, ◌∙◌, arith, lit<, ◌<◌, append_assoc, length-append}
use Rattle.std.specs.Prelude.{◌%◌, ◌==◌, if◌then◌else◌}
use Rattle.std.specs.Int.{Width, w16, w32, to_be_bytes}
use Rattle.std.proofs.Math.Seq.{drop-append_seam}
use Rattle.mb_format.specs.Format.{Format, IsBytes, SpelledAt, Spells}
use Rattle.mb_format.specs.Reading.{IsExact}
use Rattle.mb_format.specs.Combinators.{limit, number_bytes, between, sized}
use Rattle.mb_format.proofs.Exact.{IsBytes-drop, IsBytes-spelled, IsClear-from_exact, IsBytes-take}
use Rattle.mb_format.proofs.Whole.{IsClearWhole-from_exact}
use Rattle.mb_format.proofs.Fields.{IsWide, wide16, wide32, between_exact}
use Rattle.mb_format.proofs.Compositions.{sized_exact}
use Rattle.mb_model.specs.declared.entry.Entry.{Entry}
use Rattle.mb_model.specs.declared.entry.SignedEntry.{SignedEntry}
use Rattle.mb_model.specs.declared.region.Region.{Region}
use Rattle.mb_model.specs.declared.state.Codes.{Codes}
use Rattle.mb_model.specs.declared.state.State.{State}
use Rattle.mb_model.specs.declared.stored.Root.{Root}
use Rattle.mb_model.specs.records.RootFormat.{root_format}
use Rattle.mb_model.specs.records.RegionFormat.{region_format, SpellsRegion}
use Rattle.mb_model.specs.outside.Pieces.{part}
use Rattle.mb_model.specs.declared.limits.TheConstants.{AREA_LENGTH}
use Rattle.mb_model.specs.memories.Memory.{IsBlank, slots, selector_of, life_byte, first_area, second_area, area_of_slot, HoldsInArea, HoldsRecord}
use Rattle.mb_model.specs.memories.OldFlash.{flash_area, BeginsArea, BeginsWithRecord}
use Rattle.mb_model.specs.memories.Flash.{HoldsPublic}
use Rattle.mb_model.specs.memories.Meaning.{HasRoot, RootIn, HoldsRegion, Contents, FlashForm, HoldsContentsBy, HoldsContents, state_of_contents, HasMeaningBy, is_dead, is_live, StandsForBy, StandsFor}
use Rattle.mb_model.proofs.RecordFormatLaws.{root_exact, region_exact}
use Rattle.mb_model_lemmas.specs.FormLaws.{HoldsOnePublic}
use Rattle.mb_model_lemmas.proofs.OneFlash.{one_list}

-- ---- bytes after their length

dropped : (area front rest : List ℕ) (n : ℕ) → area ≡ front ++ rest → length front ≡ n → drop n area ≡ rest
dropped area front rest n split size = ap (drop n) split ∙ ap (λ k. drop k (front ++ rest)) (sym size) ∙ drop-append_seam front rest

-- bytes after their length, at the beginning of others
after_length : (w : Width) (most : ℕ) (area bytes rest : List ℕ) → length bytes ≤ most → area ≡ to_be_bytes w (length bytes) ++ bytes ++ rest
    → SpelledAt (sized (between w 0 most)).spelling (sized (between w 0 most)).Allowed area 0 bytes (length (to_be_bytes w (length bytes)) + length bytes)
unfolding number_bytes
after_length w most area bytes rest short whole =
    let front : List ℕ = to_be_bytes w (length bytes) ++ bytes in
    let split : area ≡ front ++ rest = whole in
    let size : length front ≡ length (to_be_bytes w (length bytes)) + length bytes = length-append (to_be_bytes w (length bytes)) bytes in
    record {
      allowed = ((omega arith, short), refl);
      here = split ∙ ap (λ t. front ++ t) (sym (dropped area front rest (length (to_be_bytes w (length bytes)) + length bytes) split size));
      ends = sym size ∙ omega arith;
      within = omega (arith, ap length split, length-append front rest, size);
    }

-- are determined
one_in : (w : Width) (most : ℕ) → IsWide w → most < limit w → (area a b r s : List ℕ) → IsBytes area → length a ≤ most → length b ≤ most
    → area ≡ to_be_bytes w (length a) ++ a ++ r → area ≡ to_be_bytes w (length b) ++ b ++ s → a ≡ b
one_in w most wide less area a b r s are short_a short_b whole_a whole_b =
    let clear = IsClear-from_exact (sized_exact (between_exact {w = w} {least = 0} {most = most} wide less)) in
    (clear.one_value area 0 a b _ _ (record { are_bytes = are; within = omega arith }) (after_length w most area a r short_a whole_a) (after_length w most area b s short_b whole_b)).0

-- ---- the parts of a memory are bytes

IsBytes-part : (at n : ℕ) (memory : List ℕ) → IsBytes memory → IsBytes (part at n memory)
IsBytes-part at n memory are = IsBytes-take n (drop at memory) (IsBytes-drop at memory are)

pub IsBytes-current : (bbram : List ℕ) (slot : ℕ) → IsBytes bbram → IsBytes (area_of_slot bbram slot)
unfolding area_of_slot first_area second_area
IsBytes-current bbram slot are =
    let first : List ℕ = part (slots slot).first AREA_LENGTH bbram in
    let second : List ℕ = part (slots slot).second AREA_LENGTH bbram in
    elim (selector_of bbram slot % 2 == 0) as (λ b. IsBytes (if b then first else second)) [
      | true ↦ IsBytes-part (slots slot).first AREA_LENGTH bbram are
      | false ↦ IsBytes-part (slots slot).second AREA_LENGTH bbram are
    ]

pub IsBytes-flash_area : (flash : List ℕ) (n : ℕ) → IsBytes flash → IsBytes (flash_area flash n)
unfolding flash_area
IsBytes-flash_area flash n are = IsBytes-part (524288 * n) 524288 flash are

IsBytes-middle : (area front bytes rest : List ℕ) → IsBytes area → area ≡ front ++ bytes ++ rest → IsBytes bytes
IsBytes-middle area front bytes rest are whole =
    IsBytes-spelled (drop (length front) area) bytes rest (IsBytes-drop (length front) area are) (dropped area front (bytes ++ rest) (length front) (whole ∙ append_assoc front bytes rest) refl)

-- ---- records

-- an area holds one run of bytes
one_held : (area a b : List ℕ) → IsBytes area → HoldsInArea area a → HoldsInArea area b → a ≡ b
one_held area a b are one other = one_in w16 4094 wide16 (lit< tt) area a b one.rest other.rest are one.short other.short one.whole other.whole

held_bytes : (area bytes : List ℕ) → IsBytes area → HoldsInArea area bytes → IsBytes bytes
held_bytes area bytes are holds = IsBytes-middle area (to_be_bytes w16 (length bytes)) bytes holds.rest are holds.whole

one_record : {A : Type 0} (format : Format A) → IsExact format → (area : List ℕ) (a b : A) → IsBytes area → HoldsRecord format area a → HoldsRecord format area b → a ≡ b
one_record format exact area a b are one other =
    let same = one_held area one.bytes other.bytes are one.holds other.holds in
    (IsClearWhole-from_exact exact).one_value other.bytes a b (held_bytes area other.bytes are other.holds) (subst (λ (bytes : List ℕ). Spells format bytes a) same one.spelled) other.spelled

-- an area begins with one run of bytes
pub one_start : (area a b : List ℕ) → IsBytes area → BeginsArea area a → BeginsArea area b → a ≡ b
one_start area a b are one other = one_in w32 470000 wide32 (lit< tt) area a b one.rest other.rest are one.short other.short one.whole other.whole

pub one_begun : {A : Type 0} (format : Format A) → IsExact format → (area : List ℕ) (a b : A) → IsBytes area → BeginsWithRecord format area a → BeginsWithRecord format area b → a ≡ b
one_begun format exact area a b are one other =
    let same : one.bytes ≡ other.bytes = one_start area one.bytes other.bytes are one.begins other.begins in
    let bytes_are : IsBytes other.bytes = IsBytes-middle area (to_be_bytes w32 (length other.bytes)) other.bytes other.begins.rest are other.begins.whole in
    (IsClearWhole-from_exact exact).one_value other.bytes a b bytes_are (subst (λ (bytes : List ℕ). Spells format bytes a) same one.spelled) other.spelled

-- a region's record has bytes
no_region_of_none : (version : ℕ) (region : Region) → Spells region_format [] (version, region) → ⊥
unfolding region_format number_bytes
no_region_of_none version region spelled = absurd (omega (arith, ap length spelled.whole))

one_spelled_region : (bytes : List ℕ) (a b : Region) → IsBytes bytes → SpellsRegion bytes a → SpellsRegion bytes b → a ≡ b
one_spelled_region bytes a b are (inl x) (inl y) = x.1 ∙ sym y.1
one_spelled_region bytes a b are (inl x) (inr y) = absurd (no_region_of_none y.version b (subst (λ (bs : List ℕ). Spells region_format bs (y.version, b)) x.0 y.spelled))
one_spelled_region bytes a b are (inr x) (inl y) = absurd (no_region_of_none x.version a (subst (λ (bs : List ℕ). Spells region_format bs (x.version, a)) y.0 x.spelled))
one_spelled_region bytes a b are (inr x) (inr y) =
    ap (λ (versioned : ℕ × Region). versioned.1) ((IsClearWhole-from_exact region_exact).one_value bytes (x.version, a) (y.version, b) are x.spelled y.spelled)

pub one_region : (area : List ℕ) (a b : Region) → IsBytes area → HoldsRegion area a → HoldsRegion area b → a ≡ b
one_region area a b are one other =
    let same = one_held area one.bytes other.bytes are one.holds other.holds in
    one_spelled_region other.bytes a b (held_bytes area other.bytes are other.holds) (subst (λ (bytes : List ℕ). SpellsRegion bytes a) same one.spelled) other.spelled

-- ---- each piece of a memory holds one value

pub one_root : (life : ℕ) (between area : List ℕ) (a b : Root) → IsBytes area → HasRoot life between area a → HasRoot life between area b → a ≡ b
one_root life between area a b are one other = one_record root_format root_exact area a b are one.holds other.holds

pub one_root_in : (bbram : List ℕ) (a b : Root) → IsBytes bbram → RootIn bbram a → RootIn bbram b → a ≡ b
one_root_in bbram a b are = one_root _ _ (area_of_slot bbram 1) a b (IsBytes-current bbram 1 are)

-- ---- all of them

abbrev pub contents_of : Root → Codes → List SignedEntry → List Entry → Region → Region → Contents
contents_of root codes signed unsigned two three =
    record { root = root; codes = codes; signed = signed; unsigned = unsigned; two = two; three = three }

-- a memory that is all zero is not alive
pub not_blank : (bbram : List ℕ) → IsBlank bbram → life_byte bbram ≡ 0xA5 → ⊥
not_blank [] blank alive = omega (arith, alive)
not_blank (byte ∷ bytes) blank alive = omega (arith, alive, blank 0 0 (omega arith))

-- by a form that holds one list of codes and entries, the bytes of a memory hold one contents and stand for one state
module _ (Form : FlashForm) (one_held_by : HoldsOnePublic Form) (flash bbram : List ℕ) (of_flash : IsBytes flash) (of_bbram : IsBytes bbram) where
  pub one_contents_by : (a b : Contents) → HoldsContentsBy Form flash bbram a → HoldsContentsBy Form flash bbram b → a ≡ b
  one_contents_by a b one other =
      let root : a.root ≡ b.root = one_root_in bbram a.root b.root of_bbram one.root other.root in
      let held : Form flash b.root a.codes a.signed a.unsigned = subst (λ (r : Root). Form flash r a.codes a.signed a.unsigned) root one.public in
      let public = one_held_by flash b.root a.codes b.codes a.signed b.signed a.unsigned b.unsigned of_flash held other.public in
      let two : a.two ≡ b.two = one_region (area_of_slot bbram 2) a.two b.two (IsBytes-current bbram 2 of_bbram) one.two other.two in
      let three : a.three ≡ b.three = one_region (area_of_slot bbram 3) a.three b.three (IsBytes-current bbram 3 of_bbram) one.three other.three in
      ap (λ (x : Root). contents_of x a.codes a.signed a.unsigned a.two a.three) root
      ∙ ap (λ (x : Codes). contents_of b.root x a.signed a.unsigned a.two a.three) public.0
      ∙ ap (λ (x : List SignedEntry). contents_of b.root b.codes x a.unsigned a.two a.three) public.1
      ∙ ap (λ (x : List Entry). contents_of b.root b.codes b.signed x a.two a.three) public.2
      ∙ ap (λ (x : Region). contents_of b.root b.codes b.signed b.unsigned x a.three) two
      ∙ ap (contents_of b.root b.codes b.signed b.unsigned b.two) three

  only_meaning : (a b : Option State) → HasMeaningBy Form flash bbram a → HasMeaningBy Form flash bbram b → a ≡ b
  only_meaning a b (is_dead blank x) (is_dead blank' y) = x ∙ sym y
  only_meaning a b (is_dead blank x) (is_live c holds index y) = absurd (not_blank bbram blank holds.root.alive)
  only_meaning a b (is_live c holds index x) (is_dead blank y) = absurd (not_blank bbram blank holds.root.alive)
  only_meaning a b (is_live c holds index x) (is_live d holds' index' y) =
      x ∙ ap (λ (contents : Contents). Some (state_of_contents contents)) (one_contents_by c d holds holds') ∙ sym y

  pub one_meaning_by : (a b : Option State) → StandsForBy Form flash bbram a → StandsForBy Form flash bbram b → a ≡ b
  one_meaning_by a b one other = only_meaning a b one.meaning other.meaning

pub one_contents : (flash bbram : List ℕ) (a b : Contents) → IsBytes flash → IsBytes bbram → HoldsContents flash bbram a → HoldsContents flash bbram b → a ≡ b
one_contents flash bbram a b of_flash of_bbram = one_contents_by HoldsPublic one_list flash bbram of_flash of_bbram a b

pub one_meaning : (flash bbram : List ℕ) (a b : Option State) → IsBytes flash → IsBytes bbram → StandsFor flash bbram a → StandsFor flash bbram b → a ≡ b
one_meaning flash bbram a b of_flash of_bbram = one_meaning_by HoldsPublic one_list flash bbram of_flash of_bbram a b
