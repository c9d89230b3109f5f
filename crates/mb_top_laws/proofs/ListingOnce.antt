-- A code that is listed has one list of instructions, or fails at one place.
use Rattle.std.proofs.Common.{◌≡◌, ℕ, ◌+◌, List, [], ◌∷◌, ◌++◌, length, drop, refl, sym, ◌∙◌, ap, subst, inl, inr, arith, append_assoc, length-append, append-nil}
use Rattle.std.specs.Prelude.{All}
use Rattle.std.proofs.lemmas.List.{drop_at, append_cancel_left}
use Rattle.std.proofs.lemmas.List.Elements.{All-head, All-tail}
use Rattle.std.proofs.lemmas.List.Concat.{flat_map-cons}
use Rattle.mb_format.specs.Format.{IsBytes}
use Rattle.mb_format.proofs.Exact.{IsBytes-drop, IsClear-from_exact}
use Rattle.mb_model_commands.specs.declared.role.Place.{Place}
use Rattle.mb_model_commands.specs.declared.role.Place.TheVariants as fault
use Rattle.mb_model.specs.declared.instruction.Instruction.{Instruction}
use Rattle.mb_model.specs.application.Instructions.{instruction_format, Stands}
use Rattle.mb_appvm.specs.Listing.{listing_bytes, LacksInstruction}
use Rattle.mb_model_lemmas.proofs.InstructionLemmas.{instruction_exact}
use Rattle.mb_appvm.proofs.Listings.{spelling_some}
use Rattle.mb_appvm.proofs.Clear.{assemblies_are_clear}
use Rattle.mb_tools_app.specs.AppInputs.{assembly_input, ListingFailsAt, listing_input}
use Rattle.mb_tools_app.proofs.InputLemmas.{listing_clear, stands_first, drop_past}
use Rattle.mb_top_laws.proofs.AlikeSteps.{IsReadOnce}

-- no whole instruction stands at the beginning
abbrev BeginsWithNone : List ℕ → Type 0
BeginsWithNone code = (it : Instruction) (next : ℕ) → Stands code 0 it next → ⊥

stands_after : (front code : List ℕ) (it : Instruction) (next : ℕ) → Stands code 0 it next → Stands (front ++ code) (length front) it (length front + next)
stands_after front code it next stands = record {
  allowed = stands.allowed;
  here = drop_at front code (length front) refl ∙ stands.here ∙ ap (λ (b : List ℕ). instruction_format.spelling it ++ b) (sym (drop_past front code next));
  ends = omega (arith, stands.ends);
  within = omega (arith, stands.within, length-append front code);
}

begins_with_none : (code : List ℕ) (place : ℕ) (lacks : LacksInstruction code place) → BeginsWithNone lacks.rest
begins_with_none code place lacks it next stands =
    lacks.none it (length (listing_bytes lacks.listed) + next)
    (subst (λ (n : ℕ). Stands code n it (length (listing_bytes lacks.listed) + next)) (sym lacks.here)
    (subst (λ (c : List ℕ). Stands c (length (listing_bytes lacks.listed)) it (length (listing_bytes lacks.listed) + next)) (sym lacks.split)
    (stands_after (listing_bytes lacks.listed) lacks.rest it next stands)))

nothing_begins : BeginsWithNone []
nothing_begins it next stands = omega (arith, spelling_some it, stands.ends, stands.within)

-- instructions up to where none stands are the same
one_listing : (code : List ℕ) (a b : List Instruction) (rest more : List ℕ) → IsBytes code → All instruction_format.Allowed a → All instruction_format.Allowed b
    → code ≡ listing_bytes a ++ rest → code ≡ listing_bytes b ++ more → BeginsWithNone rest → BeginsWithNone more → a ≡ b
one_listing code [] [] rest more are of_a of_b split other none never = refl
one_listing code [] (j ∷ b) rest more are of_a of_b split other none never =
    absurd (none j _ (subst (λ (c : List ℕ). Stands c 0 j (length (instruction_format.spelling j))) split
    (stands_first code j (listing_bytes b ++ more) (All-head instruction_format.Allowed j b of_b)
    (other ∙ ap (λ (x : List ℕ). x ++ more) (flat_map-cons instruction_format.spelling j b) ∙ append_assoc (instruction_format.spelling j) (listing_bytes b) more))))
one_listing code (i ∷ a) [] rest more are of_a of_b split other none never =
    absurd (never i _ (subst (λ (c : List ℕ). Stands c 0 i (length (instruction_format.spelling i))) other
    (stands_first code i (listing_bytes a ++ rest) (All-head instruction_format.Allowed i a of_a)
    (split ∙ ap (λ (x : List ℕ). x ++ rest) (flat_map-cons instruction_format.spelling i a) ∙ append_assoc (instruction_format.spelling i) (listing_bytes a) rest))))
one_listing code (i ∷ a) (j ∷ b) rest more are of_a of_b split other none never =
    let spelling = instruction_format.spelling in
    let first : code ≡ spelling i ++ (listing_bytes a ++ rest) = split ∙ ap (λ (x : List ℕ). x ++ rest) (flat_map-cons spelling i a) ∙ append_assoc (spelling i) (listing_bytes a) rest in
    let second : code ≡ spelling j ++ (listing_bytes b ++ more) = other ∙ ap (λ (x : List ℕ). x ++ more) (flat_map-cons spelling j b) ∙ append_assoc (spelling j) (listing_bytes b) more in
    let same : i ≡ j = ((IsClear-from_exact instruction_exact).one_value code 0 i j _ _ (record { are_bytes = are; within = omega arith })
    (stands_first code i (listing_bytes a ++ rest) (All-head instruction_format.Allowed i a of_a) first)
    (stands_first code j (listing_bytes b ++ more) (All-head instruction_format.Allowed j b of_b) second)).0 in
    let again : code ≡ spelling i ++ (listing_bytes b ++ more) = subst (λ (k : Instruction). code ≡ spelling k ++ (listing_bytes b ++ more)) (sym same) second in
    let tails : listing_bytes a ++ rest ≡ listing_bytes b ++ more = append_cancel_left (spelling i) (listing_bytes a ++ rest) (listing_bytes b ++ more) (sym first ∙ again) in
    let dropped : drop (length (spelling i)) code ≡ listing_bytes a ++ rest = ap (drop (length (spelling i))) first ∙ drop_at (spelling i) (listing_bytes a ++ rest) (length (spelling i)) refl in
    let later : a ≡ b = one_listing (listing_bytes a ++ rest) a b rest more (subst IsBytes dropped (IsBytes-drop (length (spelling i)) code are))
    (All-tail instruction_format.Allowed i a of_a) (All-tail instruction_format.Allowed j b of_b) refl tails none never in
    ap (λ (k : Instruction). k ∷ a) same ∙ ap (λ (list : List Instruction). j ∷ list) later

one_place : (code : List ℕ) (p q : ℕ) → IsBytes code → LacksInstruction code p → LacksInstruction code q → p ≡ q
one_place code p q are one other =
    one.here ∙ ap (λ (l : List Instruction). length (listing_bytes l)) (one_listing code one.listed other.listed one.rest other.rest are one.allowed other.allowed one.split other.split
    (begins_with_none code p one) (begins_with_none code q other)) ∙ sym other.here

one_failure : (bytes : List ℕ) (p q : Place) → IsBytes bytes → ListingFailsAt bytes p → ListingFailsAt bytes q → p ≡ q
one_failure bytes p q are (inl one) (inl other) = one.1 ∙ sym other.1
one_failure bytes p q are (inl one) (inr other) = absurd (omega (arith, one.0, other.0))
one_failure bytes p q are (inr one) (inl other) = absurd (omega (arith, one.0, other.0))
one_failure bytes p q are (inr one) (inr other) = one.1.1 ∙ ap (λ (n : ℕ). fault.At n) (one_place bytes one.1.0 other.1.0 are one.1.2 other.1.2) ∙ sym other.1.1

pub listing_once : (name : List ℕ) → IsReadOnce (listing_input name)
listing_once name = record {
  one_value = λ bytes a b are is also. one_listing bytes a b [] [] are is.allowed also.allowed
      (is.whole ∙ sym (append-nil (listing_bytes a))) (also.whole ∙ sym (append-nil (listing_bytes b))) nothing_begins nothing_begins;
  one_place = λ bytes p q are is also. one_failure bytes p q are is also;
  never_both = λ bytes value place are is wrong. listing_clear name bytes value place are is wrong;
}

pub assembly_once : (name : List ℕ) → IsReadOnce (assembly_input name)
assembly_once name = record {
  one_value = λ bytes a b are is also. assemblies_are_clear.one_code bytes a b is also;
  one_place = λ bytes p q are is also. is.1 ∙ ap (λ (n : ℕ). fault.Line n) (assemblies_are_clear.one_line bytes is.0 also.0 is.2 also.2) ∙ sym also.1;
  never_both = λ bytes value place are is wrong. assemblies_are_clear.never_both bytes value wrong.0 is wrong.2;
}
