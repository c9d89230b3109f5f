-- An image that is written from nothing: its battery-backed memory is clean, and the image is well formed.
use Rattle.std.proofs.Common.{◌≡◌, ◌+◌, ◌-◌, ◌*◌, ◌%◌, ◌==◌, ◌≤◌, ℕ, List, [], ◌∷◌, ◌++◌, length, if◌then◌else◌, Option, None, Some, refl, sym, ap, subst, ◌∙◌, arith, append_assoc, append-nil, length-append}
use Rattle.std.specs.Prelude.{IfSome}
use Rattle.std.specs.Int.{w16, to_be_bytes}
use Rattle.std.specs.List.{concat, AllByRecursion}
use Rattle.std.proofs.lemmas.List.{take_at, length-replicate}
use Rattle.std.proofs.lemmas.List.Elements.{All-replicate}
use Rattle.std.proofs.lemmas.List.Folds.{concat-append}
use Rattle.mb_model.specs.declared.state.State.{State}
use Rattle.mb_model.specs.outside.Pieces.{part}
use Rattle.mb_model.specs.records.RootFormat.{root_format}
use Rattle.mb_model.specs.records.RegionFormat.{written_region}
use Rattle.mb_model.specs.outside.Board.{erased_bytes, zeros}
use Rattle.mb_model.specs.memories.Flash.{HoldsPublic}
use Rattle.mb_model.specs.memories.Memory.{AreSized, IsBlank, slots, life_byte, selector_of, spare_bytes, first_area, second_area, area_of_slot, inactive_area_of_slot, HoldsInArea}
use Rattle.mb_model.specs.memories.Meaning.{is_dead}
use Rattle.mb_model.specs.memories.WrittenFlash.{written_flash}
use Rattle.mb_model.specs.memories.Clean.{root_of, IsCleanFor}
use Rattle.mb_model.specs.memories.WrittenImage.{area_with, written_bbram, written_image, FitsImage}
use Rattle.mb_model.proofs.FormatBounds.{root_short}
use Rattle.mb_model.proofs.RegionWriting.{written_spells, written_short}
use Rattle.mb_model.proofs.Places.{length-erased}
use Rattle.mb_model_lemmas.specs.ImageLaws.{WrittenMemoriesAreSized, WrittenMemoryIsClean, WrittenImagesAreWellFormed}
use Rattle.mb_model_lemmas.proofs.FaultLemmas.{clean_stands_for_it}
use Rattle.mb_model_lemmas.proofs.WrittenLemmas.{stands_at, written_is_whole, written_holds}

-- ---- zeros

pub length-zeros : (n : ℕ) → length (zeros n) ≡ n
unfolding zeros
length-zeros n = length-replicate n 0

pub zeros_blank : (n : ℕ) → IsBlank (zeros n)
unfolding zeros
zeros_blank n = All-replicate (λ byte. byte ≡ 0) n 0 refl

-- ---- areas

-- each of these is as long as an area
abbrev AreAreas : List (List ℕ) → Type 0
AreAreas areas = AllByRecursion (λ area. length area ≡ 4096) areas

length-concat : (areas : List (List ℕ)) → AreAreas areas → length (concat areas) ≡ 4096 * length areas
length-concat [] are = refl
length-concat (area ∷ areas) are = omega (arith, length-append area (concat areas), length-concat areas are.1, are.0)

AreAreas-append : (before after : List (List ℕ)) → AreAreas before → AreAreas after → AreAreas (before ++ after)
AreAreas-append [] after are others = others
AreAreas-append (area ∷ before) after are others = (are.0, AreAreas-append before after are.1 others)

-- an area stands where those before it end
area_in : (memory : List ℕ) (before : List (List ℕ)) (area : List ℕ) (rest : List (List ℕ)) → memory ≡ concat (before ++ area ∷ rest) → AreAreas before → length area ≡ 4096
    → part (4096 * length before) 4096 memory ≡ area
area_in memory before area rest whole are size =
    ap (λ n. part (4096 * length before) n memory) (sym size)
    ∙ stands_at (concat before) area (concat rest) memory (4096 * length before) (whole ∙ concat-append before (area ∷ rest)) (length-concat before are)

length-area : (bytes : List ℕ) → length bytes ≤ 4094 → length (area_with bytes) ≡ 4096
unfolding area_with
length-area bytes short = omega (arith, length-append bytes (zeros (4094 - length bytes)), length-zeros (4094 - length bytes), short)

area_holds : (bytes : List ℕ) → length bytes ≤ 4094 → HoldsInArea (area_with bytes) bytes
unfolding area_with
area_holds bytes short = record {
  rest = zeros (4094 - length bytes);
  short = short;
  whole = sym (append_assoc (to_be_bytes w16 (length bytes)) bytes (zeros (4094 - length bytes)));
  blank = zeros_blank (4094 - length bytes);
}

-- both areas of a slot: its record in the first, and nothing in the second
abbrev slot_areas : List ℕ → List (List ℕ)
slot_areas bytes = area_with bytes ∷ zeros 4096 ∷ []

slot_areas_are : (bytes : List ℕ) → length bytes ≤ 4094 → AreAreas (slot_areas bytes)
slot_areas_are bytes short = (length-area bytes short, (length-zeros 4096, tt))

-- a slot whose selector is zero has its record in the first of its areas, and nothing in the second
slot_holds : (bbram : List ℕ) (slot : ℕ) (before : List (List ℕ)) (bytes : List ℕ) (rest : List (List ℕ))
    → bbram ≡ concat (before ++ area_with bytes ∷ zeros 4096 ∷ rest) → AreAreas before → length bytes ≤ 4094 → selector_of bbram slot ≡ 0
    → (slots slot).first ≡ 4096 * length before → (slots slot).second ≡ 4096 * (length before + 1) → HoldsInArea (area_of_slot bbram slot) bytes × IsBlank (inactive_area_of_slot bbram slot)
unfolding area_of_slot inactive_area_of_slot first_area second_area
slot_holds bbram slot before bytes rest whole are short zero first second =
    let own : List ℕ = area_with bytes in
    let later : bbram ≡ concat ((before ++ own ∷ []) ++ zeros 4096 ∷ rest) = whole ∙ ap concat (sym (append_assoc before (own ∷ []) (zeros 4096 ∷ rest))) in
    let both : AreAreas (before ++ own ∷ []) = AreAreas-append before (own ∷ []) are (length-area bytes short, tt) in
    let at : (slots slot).second ≡ 4096 * length (before ++ own ∷ []) = second ∙ ap (λ n. 4096 * n) (sym (length-append before (own ∷ []))) in
    let one : part (slots slot).first 4096 bbram ≡ own = ap (λ n. part n 4096 bbram) first ∙ area_in bbram before own (zeros 4096 ∷ rest) whole are (length-area bytes short) in
    let two : part (slots slot).second 4096 bbram ≡ zeros 4096 = ap (λ n. part n 4096 bbram) at ∙ area_in bbram (before ++ own ∷ []) (zeros 4096) rest later both (length-zeros 4096) in
    let is_current : area_of_slot bbram slot ≡ own = ap (λ n. if n % 2 == 0 then first_area bbram slot else second_area bbram slot) zero ∙ one in
    let is_other : inactive_area_of_slot bbram slot ≡ zeros 4096 = ap (λ n. if n % 2 == 0 then second_area bbram slot else first_area bbram slot) zero ∙ two in
    (subst (λ area. HoldsInArea area bytes) (sym is_current) (area_holds bytes short), subst IsBlank (sym is_other) (zeros_blank 4096))

-- ---- records

root_fits : (state : State) → FitsImage state → length (root_format.spelling (root_of state 0)) ≤ 4094
root_fits state fits = omega (arith, root_short.short (root_of state 0) fits.root)

two_fits : (state : State) → FitsImage state → length (written_region state.two) ≤ 4094
two_fits state fits = omega (arith, written_short state.two fits.two)

three_fits : (state : State) → FitsImage state → length (written_region state.three) ≤ 4094
three_fits state fits = omega (arith, written_short state.three fits.three)

-- ---- the battery-backed memory

module _ (state : State) (fits : FitsImage state) where
  -- the bytes before the areas
  abbrev front : List ℕ
  front = (0xA5 ∷ 0 ∷ 0 ∷ 0 ∷ []) ++ zeros 4092

  abbrev root : List ℕ
  root = root_format.spelling (root_of state 0)

  -- the areas before those of region 2, and before those of region 3
  abbrev before_two : List (List ℕ)
  before_two = front ∷ slot_areas root

  abbrev before_three : List (List ℕ)
  before_three = before_two ++ slot_areas (written_region state.two)

  in_areas : written_bbram state ≡ concat (before_three ++ slot_areas (written_region state.three))
  unfolding written_bbram
  in_areas = rw append-nil refl

  front_is_area : AreAreas (front ∷ [])
  front_is_area = (omega (arith, length-zeros 4092), tt)

  are_before_two : AreAreas before_two
  are_before_two = (front_is_area.0, slot_areas_are root (root_fits state fits))

  are_before_three : AreAreas before_three
  are_before_three = AreAreas-append before_two (slot_areas (written_region state.two)) are_before_two (slot_areas_are (written_region state.two) (two_fits state fits))

  are_areas : AreAreas (before_three ++ slot_areas (written_region state.three))
  are_areas = AreAreas-append before_three (slot_areas (written_region state.three)) are_before_three (slot_areas_are (written_region state.three) (three_fits state fits))

  bbram_sized : length (written_bbram state) ≡ 28672
  bbram_sized = ap length in_areas ∙ length-concat (before_three ++ slot_areas (written_region state.three)) are_areas

  spare_is : spare_bytes (written_bbram state) ≡ zeros 4092
  unfolding spare_bytes written_bbram
  spare_is =
      take_at (zeros 4092) (area_with root ++ (zeros 4096 ++ (area_with (written_region state.two) ++ (zeros 4096 ++ (area_with (written_region state.three) ++ zeros 4096))))) 4092 (length-zeros 4092)

  life_is : life_byte (written_bbram state) ≡ 0xA5
  unfolding written_bbram
  life_is = refl

  selectors_are : (selector_of (written_bbram state) 1 ≡ 0) × (selector_of (written_bbram state) 2 ≡ 0) × (selector_of (written_bbram state) 3 ≡ 0)
  unfolding written_bbram
  selectors_are = (refl, refl, refl)

  root_holds : HoldsInArea (area_of_slot (written_bbram state) 1) root × IsBlank (inactive_area_of_slot (written_bbram state) 1)
  root_holds = slot_holds (written_bbram state) 1 (front ∷ []) root (slot_areas (written_region state.two) ++ slot_areas (written_region state.three)) in_areas front_is_area (root_fits state fits) selectors_are.0 refl refl

  two_holds : HoldsInArea (area_of_slot (written_bbram state) 2) (written_region state.two) × IsBlank (inactive_area_of_slot (written_bbram state) 2)
  two_holds = slot_holds (written_bbram state) 2 before_two (written_region state.two) (slot_areas (written_region state.three)) in_areas are_before_two (two_fits state fits) selectors_are.1 refl refl

  three_holds : HoldsInArea (area_of_slot (written_bbram state) 3) (written_region state.three) × IsBlank (inactive_area_of_slot (written_bbram state) 3)
  three_holds = slot_holds (written_bbram state) 3 before_three (written_region state.three) [] in_areas are_before_three (three_fits state fits) selectors_are.2 refl refl

  written_is_clean : IsCleanFor (written_bbram state) state
  written_is_clean = record {
    sized = bbram_sized;
    area = 0;
    root = record {
      alive = life_is;
      blank = subst IsBlank (sym spare_is) (zeros_blank 4092);
      holds = record { bytes = root; holds = root_holds.0; spelled = record { allowed = fits.root; whole = refl } };
    };
    two = record { bytes = written_region state.two; holds = two_holds.0; spelled = written_spells state.two fits.two };
    three = record { bytes = written_region state.three; holds = three_holds.0; spelled = written_spells state.three fits.three };
    other_root = root_holds.1;
    other_two = two_holds.1;
    other_three = three_holds.1;
  }

-- ---- the image

pub written_is_sized : WrittenMemoriesAreSized
written_is_sized state fits = record { flash = written_is_whole state.codes state.log fits.codes fits.log; bbram = bbram_sized state fits }

pub written_memory_is_clean : WrittenMemoryIsClean
unfolding written_is_clean
written_memory_is_clean state fits = (written_is_clean state fits, refl)

pub written_is_well_formed : WrittenImagesAreWellFormed
unfolding written_image written_is_clean
written_is_well_formed None fits valid =
    let sized : AreSized (erased_bytes 1048576) (zeros 28672) = record { flash = length-erased 1048576; bbram = length-zeros 28672 } in
    record {
      flash = erased_bytes 1048576;
      bbram = zeros 28672;
      image_is = (refl, sized);
      stands = record { sized = sized; meaning = is_dead (zeros_blank 28672) refl };
      valid = tt;
    }
written_is_well_formed (Some state) fits valid =
    let flash : List ℕ = written_flash state.codes state.log in
    let sized : AreSized flash (written_bbram state) = written_is_sized state fits in
    let held : HoldsPublic flash (root_of state 0) state.codes state.log [] = written_holds state.codes state.log fits.codes fits.log (root_of state 0) refl refl in
    record {
      flash = flash;
      bbram = written_bbram state;
      image_is = (refl, sized);
      stands = clean_stands_for_it flash (written_bbram state) state (written_is_clean state fits) sized.flash held valid.layers;
      valid = valid;
    }

pub length-image : (state : Option State) → IfSome state FitsImage → length (written_image state) ≡ 1077248
unfolding written_image
length-image None fits = omega (arith, length-append (erased_bytes 1048576) (zeros 28672), length-erased 1048576, length-zeros 28672)
length-image (Some state) fits =
    let sized : AreSized (written_flash state.codes state.log) (written_bbram state) = written_is_sized state fits in
    omega (arith, length-append (written_flash state.codes state.log) (written_bbram state), sized.flash, sized.bbram)
