-- An image has one fault at most, and none where it is well formed. A clean memory stands for its state.
use Rattle.std.proofs.Common.{◌≡◌, ◌≢◌, ℕ, List, [], inl, inr, length, take, drop, Option, None, Some, refl, sym, ap, subst, ◌∙◌, arith, length-append}
use Rattle.std.specs.Prelude.{◌⊎◌}
use Rattle.std.proofs.lemmas.List.{append-nil, take-append-drop, length-take, length-drop}
use Rattle.std.proofs.Math.Seq.{drop-append_seam}
use Rattle.mb_format.specs.Format.{IsBytes}
use Rattle.mb_format.proofs.Exact.{IsBytes-drop, IsBytes-spelled}
use Rattle.mb_model.specs.declared.entry.SignedEntry.{SignedEntry}
use Rattle.mb_model.specs.declared.layer.Layers.{Layers}
use Rattle.mb_model.specs.declared.state.State.{State}
use Rattle.mb_model.specs.declared.stored.Root.{Root}
use Rattle.mb_model.specs.owners.Log.{entries_of, layers_of}
use Rattle.mb_model.specs.memories.Memory.{AreSized, IsImage, IsBlank, area_of_slot}
use Rattle.mb_model.specs.memories.StoredLog.{log_completed_by}
use Rattle.mb_model.specs.memories.Flash.{HoldsPublic}
use Rattle.mb_model.specs.memories.Valid.{Valid}
use Rattle.mb_model.specs.memories.Meaning.{RootIn, Contents, FlashForm, HoldsContentsBy, HoldsContents, region_after_fate, state_of_contents, HasMeaningBy, is_dead, is_live, StandsForBy, StandsFor, IsWellFormedBy, IsWellFormed}
use Rattle.mb_model.specs.memories.Faults.{Fault, bad_length, bad_root, bad_public, bad_region_two, bad_region_three, bad_state, SomePublicBy, SomeRegion, AreSound, IsFaultyBy, HasFaultBy, HasFault}
use Rattle.mb_model.specs.memories.Clean.{root_of, IsCleanFor, Clean}
use Rattle.mb_model_lemmas.specs.FormLaws.{HoldsOnePublic}
use Rattle.mb_model_lemmas.proofs.OneFlash.{one_list}
use Rattle.mb_model_lemmas.proofs.MeaningLemmas.{one_root_in, one_contents_by, not_blank, one_meaning_by}
use Rattle.mb_model_lemmas.proofs.Splits.{same_halves, IsOne, Lacks, one_lacks}

-- ---- the two memories of an image

pub image_parts : (image flash bbram flash' bbram' : List ℕ) → IsImage image flash bbram → IsImage image flash' bbram' → (flash ≡ flash') × (bbram ≡ bbram')
image_parts image flash bbram flash' bbram' one other =
    same_halves flash flash' bbram bbram' (one.1.flash ∙ sym other.1.flash) (sym one.0 ∙ other.0)

pub image_flash_bytes : (image flash bbram : List ℕ) → IsBytes image → IsImage image flash bbram → IsBytes flash
image_flash_bytes image flash bbram are is = IsBytes-spelled image flash bbram are is.0

pub image_bbram_bytes : (image flash bbram : List ℕ) → IsBytes image → IsImage image flash bbram → IsBytes bbram
image_bbram_bytes image flash bbram are is =
    subst IsBytes (ap (drop (length flash)) is.0 ∙ drop-append_seam flash bbram) (IsBytes-drop (length flash) image are)

image_length : (image flash bbram : List ℕ) → IsImage image flash bbram → length image ≡ 1077248
image_length image flash bbram is = omega (arith, ap length is.0, length-append flash bbram, is.1.flash, is.1.bbram)

-- ---- faults of a memory, in the order in which they are named, by a form that holds one list of codes and entries

abbrev SomeRoot : List ℕ → Type 0
SomeRoot bbram = (root : Root) × RootIn bbram root

abbrev AnyPublic : FlashForm → List ℕ → List ℕ → Type 0
AnyPublic Form flash bbram = (root : Root) × RootIn bbram root × SomePublicBy Form flash root

abbrev SomeSound : FlashForm → List ℕ → List ℕ → Type 0
SomeSound Form flash bbram = (contents : Contents) × HoldsContentsBy Form flash bbram contents × AreSound contents

-- the memory lacks what the fault says, and nothing that comes before
abbrev Misses : FlashForm → List ℕ → List ℕ → Fault → Type 0
Misses Form flash bbram =
    Lacks bad_root (SomeRoot bbram) (Lacks bad_public (AnyPublic Form flash bbram) (Lacks bad_region_two (SomeRegion (area_of_slot bbram 2))
    (Lacks bad_region_three (SomeRegion (area_of_slot bbram 3)) (Lacks bad_state (SomeSound Form flash bbram) (λ fault. ⊥)))))

one_missing : (Form : FlashForm) (flash bbram : List ℕ) → IsOne (Misses Form flash bbram)
one_missing Form flash bbram =
    let last = one_lacks bad_state (SomeSound Form flash bbram) (λ fault. ⊥) (λ r s x y. absurd x) in
    let three = one_lacks bad_region_three (SomeRegion (area_of_slot bbram 3)) _ last in
    let two = one_lacks bad_region_two (SomeRegion (area_of_slot bbram 2)) _ three in
    let public = one_lacks bad_public (AnyPublic Form flash bbram) _ two in
    one_lacks bad_root (SomeRoot bbram) _ public

no_public : (Form : FlashForm) (flash bbram : List ℕ) (root : Root) → IsBytes bbram → RootIn bbram root → (SomePublicBy Form flash root → ⊥) → AnyPublic Form flash bbram → ⊥
no_public Form flash bbram root are has none any =
    none (subst (SomePublicBy Form flash) (one_root_in bbram any.0 root are any.1 has) any.2)

some_public : (Form : FlashForm) (flash bbram : List ℕ) (contents : Contents) → HoldsContentsBy Form flash bbram contents → SomePublicBy Form flash contents.root
some_public Form flash bbram contents holds = (contents.codes, contents.signed, contents.unsigned, holds.public)

no_root : (bbram : List ℕ) (root : Root) → IsBlank bbram → RootIn bbram root → ⊥
no_root bbram root blank has = not_blank bbram blank has.alive

dead_is_sound : (Form : FlashForm) (flash bbram : List ℕ) (fault : Fault) → IsBlank bbram → IsFaultyBy Form flash bbram fault → ⊥
dead_is_sound Form flash bbram bad_length blank x = x
dead_is_sound Form flash bbram bad_root blank x = x.0 blank
dead_is_sound Form flash bbram bad_public blank x = no_root bbram x.0 blank x.1
dead_is_sound Form flash bbram bad_region_two blank x = no_root bbram x.0 blank x.1
dead_is_sound Form flash bbram bad_region_three blank x = no_root bbram x.0 blank x.1
dead_is_sound Form flash bbram bad_state blank x = no_root bbram x.0.root blank x.1.root

module _ (Form : FlashForm) (one : HoldsOnePublic Form) (flash bbram : List ℕ) (of_flash : IsBytes flash) (of_bbram : IsBytes bbram) where
  not_sound : (contents : Contents) → HoldsContentsBy Form flash bbram contents → (AreSound contents → ⊥) → SomeSound Form flash bbram → ⊥
  not_sound contents holds fails sound =
      fails (subst AreSound (one_contents_by Form one flash bbram of_flash of_bbram sound.0 contents sound.1 holds) sound.2)

  missing : (fault : Fault) → IsFaultyBy Form flash bbram fault → Misses Form flash bbram fault
  missing bad_length x = absurd x
  missing bad_root x = inl (refl, λ some. x.1 some.0 some.1)
  missing bad_public x = inr ((x.0, x.1), inl (refl, no_public Form flash bbram x.0 of_bbram x.1 x.2))
  missing bad_region_two x = inr ((x.0, x.1), inr ((x.0, x.1, x.2), inl (refl, x.3)))
  missing bad_region_three x = inr ((x.0, x.1), inr ((x.0, x.1, x.2), inr (x.3, inl (refl, x.4))))
  missing bad_state x =
      let c = x.0 in
      inr ((c.root, x.1.root), inr ((c.root, x.1.root, some_public Form flash bbram c x.1), inr ((c.two, x.1.two), inr ((c.three, x.1.three), inl (refl, not_sound c x.1 x.2)))))

  live_is_sound : (fault : Fault) → SomeSound Form flash bbram → IsFaultyBy Form flash bbram fault → ⊥
  live_is_sound bad_length sound x = x
  live_is_sound bad_root sound x = x.1 sound.0.root sound.1.root
  live_is_sound bad_public sound x = no_public Form flash bbram x.0 of_bbram x.1 x.2 (sound.0.root, sound.1.root, some_public Form flash bbram sound.0 sound.1)
  live_is_sound bad_region_two sound x = x.3 (sound.0.two, sound.1.two)
  live_is_sound bad_region_three sound x = x.4 (sound.0.three, sound.1.three)
  live_is_sound bad_state sound x = not_sound x.0 x.1 x.2 sound

  means_no_fault : (state : Option State) (fault : Fault) → Valid state → HasMeaningBy Form flash bbram state → IsFaultyBy Form flash bbram fault → ⊥
  means_no_fault state fault valid (is_dead blank is) x = dead_is_sound Form flash bbram fault blank x
  means_no_fault state fault valid (is_live contents holds index is) x =
      live_is_sound fault (contents, holds, (index, subst Valid is valid)) x

-- ---- faults of an image

-- the image has another length, or else two memories, of which one has the fault
abbrev Shown : FlashForm → List ℕ → Fault → Type 0
Shown Form image fault =
    ((fault ≡ bad_length) × (length image ≢ 1077248))
    ⊎ ((flash : List ℕ) × (bbram : List ℕ) × IsImage image flash bbram × IsFaultyBy Form flash bbram fault)

shown : (Form : FlashForm) (image : List ℕ) (fault : Fault) → HasFaultBy Form image fault → Shown Form image fault
shown Form image bad_length x = inl (refl, x)
shown Form image bad_root x = inr x
shown Form image bad_public x = inr x
shown Form image bad_region_two x = inr x
shown Form image bad_region_three x = inr x
shown Form image bad_state x = inr x

-- a fault of one pair of memories of an image is one of every other
faulty_there : (Form : FlashForm) (image flash bbram flash' bbram' : List ℕ) (fault : Fault) → IsImage image flash bbram → IsImage image flash' bbram' → IsFaultyBy Form flash bbram fault
    → IsFaultyBy Form flash' bbram' fault
faulty_there Form image flash bbram flash' bbram' fault is other faulty =
    let same = image_parts image flash bbram flash' bbram' is other in
    subst (λ (f : List ℕ). IsFaultyBy Form f bbram' fault) same.0 (subst (λ (m : List ℕ). IsFaultyBy Form flash m fault) same.1 faulty)

module _ (Form : FlashForm) (one : HoldsOnePublic Form) (image : List ℕ) (are : IsBytes image) where
  one_shown : (a b : Fault) → Shown Form image a → Shown Form image b → a ≡ b
  one_shown a b (inl x) (inl y) = x.0 ∙ sym y.0
  one_shown a b (inl x) (inr y) = absurd (x.1 (image_length image y.0 y.1 y.2))
  one_shown a b (inr x) (inl y) = absurd (y.1 (image_length image x.0 x.1 x.2))
  one_shown a b (inr x) (inr y) =
      let of_flash = image_flash_bytes image y.0 y.1 are y.2 in
      let of_bbram = image_bbram_bytes image y.0 y.1 are y.2 in
      let faulty : IsFaultyBy Form y.0 y.1 a = faulty_there Form image x.0 x.1 y.0 y.1 a x.2 y.2 x.3 in
      one_missing Form y.0 y.1 a b (missing Form one y.0 y.1 of_flash of_bbram a faulty) (missing Form one y.0 y.1 of_flash of_bbram b y.3)

  pub one_fault_by : (a b : Fault) → HasFaultBy Form image a → HasFaultBy Form image b → a ≡ b
  one_fault_by a b x y = one_shown a b (shown Form image a x) (shown Form image b y)

  -- ---- well-formed images

  no_shown : (state : Option State) (fault : Fault) → IsWellFormedBy Form image state → Shown Form image fault → ⊥
  no_shown state fault well (inl x) = x.1 (image_length image well.flash well.bbram well.image_is)
  no_shown state fault well (inr x) =
      let of_flash = image_flash_bytes image well.flash well.bbram are well.image_is in
      let of_bbram = image_bbram_bytes image well.flash well.bbram are well.image_is in
      let faulty : IsFaultyBy Form well.flash well.bbram fault = faulty_there Form image x.0 x.1 well.flash well.bbram fault x.2 well.image_is x.3 in
      means_no_fault Form one well.flash well.bbram of_flash of_bbram state fault well.valid well.stands.meaning faulty

  pub no_fault_by : (state : Option State) (fault : Fault) → IsWellFormedBy Form image state → HasFaultBy Form image fault → ⊥
  no_fault_by state fault well x = no_shown state fault well (shown Form image fault x)

  pub one_state_by : (a b : Option State) → IsWellFormedBy Form image a → IsWellFormedBy Form image b → a ≡ b
  one_state_by a b formed other =
      let same = image_parts image formed.flash formed.bbram other.flash other.bbram formed.image_is other.image_is in
      let stands : StandsForBy Form other.flash other.bbram a =
      subst (λ (f : List ℕ). StandsForBy Form f other.bbram a) same.0 (subst (λ (m : List ℕ). StandsForBy Form formed.flash m a) same.1 formed.stands)
      in
      one_meaning_by Form one other.flash other.bbram (image_flash_bytes image other.flash other.bbram are other.image_is) (image_bbram_bytes image other.flash other.bbram are other.image_is)
      a b stands other.stands

-- ---- no gap between the two

two_parts : (image : List ℕ) → length image ≡ 1077248 → (flash : List ℕ) × (bbram : List ℕ) × IsImage image flash bbram
two_parts image long =
    let sized : AreSized (take 1048576 image) (drop 1048576 image) = record {
      flash = omega (arith, long, length-take 1048576 image);
      bbram = omega (arith, long, length-drop 1048576 image);
    } in
    (take 1048576 image, drop 1048576 image, (sym (take-append-drop 1048576 image), sized))

-- an image of these two memories that is not well formed and has no fault: in turn, it has all that a fault could lack
module _ (Form : FlashForm) (image flash bbram : List ℕ) (is : IsImage image flash bbram) (fails : (state : Option State) → IsWellFormedBy Form image state → ⊥) (none : (fault : Fault) → HasFaultBy Form image fault → ⊥) where
  no_meaning : (state : Option State) → HasMeaningBy Form flash bbram state → Valid state → ⊥
  no_meaning state meaning valid =
      fails state (record { flash = flash; bbram = bbram; image_is = is; stands = record { sized = is.1; meaning = meaning }; valid = valid })

  no_bad_state : (contents : Contents) → HoldsContentsBy Form flash bbram contents → ⊥
  no_bad_state contents holds =
      none bad_state (flash, bbram, is, (contents, holds, λ sound. no_meaning (Some (state_of_contents contents)) (is_live contents holds sound.0 refl) sound.1))

  no_bad_three : (root : Root) → RootIn bbram root → SomePublicBy Form flash root → SomeRegion (area_of_slot bbram 2) → ⊥
  no_bad_three root has public two =
      let whole : SomeRegion (area_of_slot bbram 3) → ⊥ = λ three.
      let contents : Contents = record {
        root = root;
        codes = public.0;
        signed = public.1;
        unsigned = public.2;
        two = two.0;
        three = three.0;
      } in
      no_bad_state contents (record { root = has; public = public.3; two = two.1; three = three.1 })
      in
      none bad_region_three (flash, bbram, is, (root, has, public, two, whole))

  no_bad_two : (root : Root) → RootIn bbram root → SomePublicBy Form flash root → ⊥
  no_bad_two root has public = none bad_region_two (flash, bbram, is, (root, has, public, no_bad_three root has public))

  no_bad_public : (root : Root) → RootIn bbram root → ⊥
  no_bad_public root has = none bad_public (flash, bbram, is, (root, has, no_bad_two root has))

  no_bad_root : ⊥
  no_bad_root = none bad_root (flash, bbram, is, ((λ blank. no_meaning None (is_dead blank refl) tt), no_bad_public))

pub formed_or_faulty_by : (Form : FlashForm) (image : List ℕ) → ((state : Option State) → IsWellFormedBy Form image state → ⊥) → ((fault : Fault) → HasFaultBy Form image fault → ⊥) → ⊥
formed_or_faulty_by Form image fails none =
    none bad_length (λ long.
    let halves = two_parts image long in
    no_bad_root Form image halves.0 halves.1 halves.2 fails none)

-- ---- the present form

pub one_fault : (image : List ℕ) (a b : Fault) → IsBytes image → HasFault image a → HasFault image b → a ≡ b
one_fault image a b are = one_fault_by HoldsPublic one_list image are a b

pub well_formed_has_no_fault : (image : List ℕ) (state : Option State) (fault : Fault) → IsBytes image → IsWellFormed image state → HasFault image fault → ⊥
well_formed_has_no_fault image state fault are = no_fault_by HoldsPublic one_list image are state fault

pub well_formed_stands_for_one : (image : List ℕ) (a b : Option State) → IsBytes image → IsWellFormed image a → IsWellFormed image b → a ≡ b
well_formed_stands_for_one image a b are = one_state_by HoldsPublic one_list image are a b

pub well_formed_or_faulty : (image : List ℕ) → ((state : Option State) → IsWellFormed image state → ⊥) → ((fault : Fault) → HasFault image fault → ⊥) → ⊥
well_formed_or_faulty = formed_or_faulty_by HoldsPublic

-- ---- clean memories

-- what is stored of a state where nothing is pending and the public record is in this area of the flash
abbrev at_rest : State → ℕ → Contents
at_rest state area = record {
  root = root_of state area;
  codes = state.codes;
  signed = state.log;
  unsigned = [];
  two = state.two;
  three = state.three;
}

-- the state with other layers and another log
abbrev rebuilt : State → Layers → List SignedEntry → State
rebuilt state layers log = record state { layers = layers; log = log }

rest_means : (state : State) (area : ℕ) → state.layers ≡ layers_of (entries_of state.log) → state ≡ state_of_contents (at_rest state area)
unfolding state_of_contents log_completed_by region_after_fate
rest_means state area layers =
    ap (λ (l : Layers). rebuilt state l state.log) layers
    ∙ ap (λ (log : List SignedEntry). rebuilt state (layers_of (entries_of log)) log) (sym (append-nil state.log))

pub clean_stands_for_it : (flash bbram : List ℕ) (state : State) (clean : IsCleanFor bbram state) → length flash ≡ 1048576
    → HoldsPublic flash (root_of state clean.area) state.codes state.log []
    → state.layers ≡ layers_of (entries_of state.log) → StandsFor flash bbram (Some state)
clean_stands_for_it flash bbram state clean long public layers =
    let holds : HoldsContents flash bbram (at_rest state clean.area) = record { root = clean.root; public = public; two = clean.two; three = clean.three } in
    record {
      sized = record { flash = long; bbram = clean.sized };
      meaning = is_live (at_rest state clean.area) holds tt (ap Some (rest_means state clean.area layers));
    }

pub blank_is_dead : (bbram : List ℕ) (state : Option State) → IsBlank bbram → Clean bbram state → state ≡ None
blank_is_dead bbram None blank clean = refl
blank_is_dead bbram (Some state) blank clean = absurd (not_blank bbram blank clean.root.alive)
