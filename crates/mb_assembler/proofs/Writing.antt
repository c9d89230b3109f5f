-- How far the text of a code with labels and places has been written.
use Rattle.std.proofs.Common.{◌≡◌, ℕ, ◌+◌, ◌<◌, ◌≤◌, Bool, List, [], ◌∷◌, ◌++◌, length, refl, sym, ap, subst, ◌∙◌, arith, append_assoc, length-append}
use Rattle.std.specs.Prelude.{All, flat_map, codes, if◌then◌else◌}
use Rattle.std.proofs.lemmas.List.{flat_map_more, append-nil}
use Rattle.std.proofs.lemmas.List.Concat.{flat_map-cons}
use Rattle.std.proofs.lemmas.List.Elements.{All-head, All-tail}
use Rattle.std.proofs.lemmas.Grind.{flat_map-append}
use Rattle.std.specs.Fmt.{decimal}
use Rattle.mb_format.specs.Format.{IsBytes}
use Rattle.mb_model.specs.outside.Texts.{line_with_lf}
use Rattle.mb_model.specs.declared.instruction.Instruction.{Instruction}
use Rattle.mb_model.specs.declared.instruction.Instruction.TheVariants as instruction
use Rattle.mb_model.specs.application.Instructions.{instruction_format, Stands}
use Rattle.mb_appvm.specs.Listing.{listing_bytes}
use Rattle.mb_appvm.proofs.Listings.{spelling_some}
use Rattle.mb_assembler.specs.declared.marks.Marks.{Marks}
use Rattle.mb_assembler.specs.Labelled.{PlacedInstruction, placed_from, has_instruction, some_goes_to, label_of_place, target_word, words_with_label, line_with_place, label_text, instruction_text, labelled_text, IsLabelledListing}
use Rattle.mb_assembler.specs.Marks.{stands_by, reached_by, AreMarks, HasMarks}
use Rattle.mb_assembler.proofs.Places.{instruction_at, placed_at, stands_next, same_instruction, bytes_more}

-- ---- by the marks

target_same : (one other : ℕ → Bool) → ((place : ℕ) → one place ≡ other place) → (to : ℕ) → target_word one to ≡ target_word other to
target_same one other same to = ap (λ (b : Bool). if b then label_of_place to else decimal to) (same to)

words_same : (one other : ℕ → Bool) → ((place : ℕ) → one place ≡ other place) → (it : Instruction) → words_with_label one it ≡ words_with_label other it
words_same one other same (instruction.Jump to) = ap (λ (word : List ℕ). codes "jump " ++ word) (target_same one other same to)
words_same one other same (instruction.JumpZero to) = ap (λ (word : List ℕ). codes "jumpzero " ++ word) (target_same one other same to)
words_same one other same (instruction.Call to) = ap (λ (word : List ℕ). codes "call " ++ word) (target_same one other same to)
words_same one other same (instruction.Plain kind) = refl
words_same one other same (instruction.Push number) = refl
words_same one other same (instruction.Get name) = refl

-- the text of an instruction by the marks is its text
text_same : (size : ℕ) (all : List PlacedInstruction) (marks : Marks) (here : PlacedInstruction) → AreMarks size all marks → here.place < size
    → instruction_text (stands_by marks) (reached_by marks) here ≡ instruction_text (has_instruction all) (some_goes_to all) here
text_same size all marks here are within =
    ap (λ (b : Bool). (if b then line_with_lf (codes "label " ++ label_of_place here.place) else []) ++ line_with_lf (line_with_place (stands_by marks) here)) (are.reached here.place within)
    ∙ ap (λ (words : List ℕ). label_text (some_goes_to all) here.place ++ line_with_lf (words ++ (codes " ; " ++ decimal here.place))) (words_same (stands_by marks) (has_instruction all) are.stands here.it)

-- ---- the text

-- the text of the instructions before a place of a code was written
pub record IsWrittenTo (code : List ℕ) (marks : Marks) (place : ℕ) (text : List ℕ) : Type 0 where
  pub has : HasMarks code marks
  pub done : List Instruction
  pub rest : List Instruction
  pub split : has.listed ≡ done ++ rest
  pub here : place ≡ length (listing_bytes done)
  pub written : text ≡ flat_map (instruction_text (has_instruction (placed_from 0 has.listed)) (some_goes_to (placed_from 0 has.listed))) (placed_from 0 done)

pub none_written : (code : List ℕ) (marks : Marks) (text : List ℕ) → HasMarks code marks → text ≡ [] → IsWrittenTo code marks 0 text
none_written code marks text has empty = record { has = has; done = []; rest = has.listed; split = refl; here = refl; written = empty }

-- the instruction at a place, where bytes of the code are left
pub record IsNext (code : List ℕ) (rest : List Instruction) (place : ℕ) : Type 0 where
  pub it : Instruction
  pub next : ℕ
  pub later : List Instruction
  pub split : rest ≡ it ∷ later
  pub stands : Stands code place it next

allowed_here : (done later : List Instruction) (it : Instruction) → All instruction_format.Allowed (done ++ it ∷ later) → instruction_format.Allowed it
allowed_here [] later it all = All-head instruction_format.Allowed it later all
allowed_here (first ∷ done) later it all = allowed_here done later it (All-tail instruction_format.Allowed first (done ++ it ∷ later) all)

next_of : (code : List ℕ) (listed done rest : List Instruction) (place : ℕ) → All instruction_format.Allowed listed → code ≡ listing_bytes listed → listed ≡ done ++ rest
    → place ≡ length (listing_bytes done) → place < length code → IsNext code rest place
next_of code listed done [] place allowed whole split here some =
    let same : code ≡ listing_bytes done = whole ∙ ap listing_bytes (split ∙ append-nil done) in
    absurd (omega (arith, here, some, ap length same))
next_of code listed done (it ∷ later) place allowed whole split here some =
    let size = length (listing_bytes done) + length (instruction_format.spelling it) in
    let allowed_it : instruction_format.Allowed it = allowed_here done later it (subst (All instruction_format.Allowed) split allowed) in
    record {
      it = it;
      next = size;
      later = later;
      split = refl;
      stands = subst (λ (n : ℕ). Stands code n it size) (sym here) (stands_next code done later it allowed_it (whole ∙ ap listing_bytes split));
    }

pub next_stands : (code : List ℕ) (marks : Marks) (place : ℕ) (text : List ℕ) (is : IsWrittenTo code marks place text) → place < length code
    → IsNext code is.rest place
next_stands code marks place text is some = next_of code is.has.listed is.done is.rest place is.has.allowed is.has.whole is.split is.here some

pub one_written : (code : List ℕ) (marks : Marks) (place next : ℕ) (it : Instruction) (text more : List ℕ) → IsBytes code
    → IsWrittenTo code marks place text → place < length code → Stands code place it next
    → more ≡ text ++ instruction_text (stands_by marks) (reached_by marks) (instruction_at place it) → IsWrittenTo code marks next more
one_written code marks place next it text more are is some stands puts =
    let there = next_stands code marks place text is some in
    let same = same_instruction code place next there.next it there.it are stands there.stands in
    let all = placed_from 0 is.has.listed in
    let f : PlacedInstruction → List ℕ = instruction_text (has_instruction all) (some_goes_to all) in
    let here : PlacedInstruction = instruction_at place it in
    record {
      has = is.has;
      done = is.done ++ it ∷ [];
      rest = there.later;
      split = is.split ∙ ap (λ (x : List Instruction). is.done ++ x) (there.split ∙ ap (λ (i : Instruction). i ∷ there.later) (sym same.0))
          ∙ sym (append_assoc is.done (it ∷ []) there.later);
      here = omega (arith, stands.ends, is.here, ap length (bytes_more is.done it), length-append (listing_bytes is.done) (instruction_format.spelling it));
      written = puts ∙ ap (λ (x : List ℕ). x ++ instruction_text (stands_by marks) (reached_by marks) here) is.written
          ∙ ap (λ (x : List ℕ). flat_map f (placed_from 0 is.done) ++ x) (text_same (length code) all marks here is.has.marked some)
          ∙ flat_map_more f [] (placed_from 0 is.done) here
          ∙ ap (flat_map f) (sym (placed_at place is.done it is.here));
    }

none_left : (code : List ℕ) (listed done rest : List Instruction) (place : ℕ) → code ≡ listing_bytes listed → listed ≡ done ++ rest → place ≡ length (listing_bytes done)
    → length code ≤ place → rest ≡ []
none_left code listed done [] place whole split here all = refl
none_left code listed done (it ∷ rest) place whole split here all =
    let spelling = instruction_format.spelling in
    let parts : code ≡ listing_bytes done ++ (spelling it ++ listing_bytes rest) = whole ∙ ap listing_bytes split ∙ flat_map-append spelling done (it ∷ rest)
    ∙ ap (λ (x : List ℕ). listing_bytes done ++ x) (flat_map-cons spelling it rest) in
    absurd (omega (arith, here, all, spelling_some it, ap length parts, length-append (listing_bytes done) (spelling it ++ listing_bytes rest), length-append (spelling it) (listing_bytes rest)))

pub all_written : (code : List ℕ) (marks : Marks) (place : ℕ) (text : List ℕ) → IsWrittenTo code marks place text → length code ≤ place → IsLabelledListing code text
unfolding labelled_text
all_written code marks place text is all =
    let listed = is.has.listed in
    let none = none_left code listed is.done is.rest place is.has.whole is.split is.here all in
    let same : is.done ≡ listed = sym (is.split ∙ ap (λ (x : List Instruction). is.done ++ x) none ∙ append-nil is.done) in
    record {
      listed = listed;
      allowed = is.has.allowed;
      whole = is.has.whole;
      written = is.written ∙ ap (λ (x : List Instruction). flat_map (instruction_text (has_instruction (placed_from 0 listed)) (some_goes_to (placed_from 0 listed))) (placed_from 0 x)) same;
    }
