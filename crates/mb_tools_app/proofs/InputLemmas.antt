-- The inputs of these commands are read in one way.
use Rattle.std.proofs.Common.{◌≡◌, ◌≢◌, ℕ, ◌+◌, ◌<◌, List, [], ◌∷◌, ◌++◌, length, drop, refl, sym, ◌∙◌, ap, subst, inl, inr, arith, append_assoc, length-append}
use Rattle.std.specs.Prelude.{All}
use Rattle.std.proofs.lemmas.List.{drop-drop, drop_at, append_cancel_left}
use Rattle.std.proofs.lemmas.List.Elements.{All-head, All-tail}
use Rattle.std.proofs.lemmas.List.Concat.{flat_map-cons}
use Rattle.mb_format.specs.Format.{IsBytes}
use Rattle.mb_format.proofs.Exact.{IsBytes-drop, IsClear-from_exact}
use Rattle.mb_model_commands.specs.Inputs.{IsClearInput}
use Rattle.mb_model.specs.declared.instruction.Instruction.{Instruction}
use Rattle.mb_model.specs.application.Instructions.{instruction_format, Stands}
use Rattle.mb_appvm.specs.Listing.{listing_bytes}
use Rattle.mb_model_lemmas.proofs.InstructionLemmas.{instruction_exact}
use Rattle.mb_appvm.proofs.Clear.{assemblies_are_clear}
use Rattle.mb_model_lemmas.proofs.LineLemmas.{HasLines-same, FailsAtLine-none}
use Rattle.mb_appvm.specs.SecretTexts.{AreSecrets}
use Rattle.mb_tools_app.specs.AppInputs.{app_input, assembly_input, listing_input}
use Rattle.mb_tools_app.specs.CallcodeCommand.{secrets_input}

pub app_clear : (name : List ℕ) → IsClearInput (app_input name)
app_clear name bytes value place are is faulty = faulty

pub assembly_clear : (name : List ℕ) → IsClearInput (assembly_input name)
assembly_clear name bytes value place are is faulty = assemblies_are_clear.never_both bytes value faulty.0 is faulty.2

-- ---- a code that is listed

-- some instruction stands at a place
pub record StandsSome (code : List ℕ) (place : ℕ) : Type 0 where
  pub it : Instruction
  pub next : ℕ
  pub stands : Stands code place it next

one_instruction : (code : List ℕ) (i j : Instruction) (m n : ℕ) → IsBytes code → Stands code 0 i m → Stands code 0 j n → i ≡ j
one_instruction code i j m n are a b =
    ((IsClear-from_exact instruction_exact).one_value code 0 i j m n (record { are_bytes = are; within = omega arith }) a b).0

-- the first instruction of a code stands at its beginning
pub stands_first : (code : List ℕ) (i : Instruction) (rest : List ℕ) → instruction_format.Allowed i → code ≡ instruction_format.spelling i ++ rest
    → Stands code 0 i (length (instruction_format.spelling i))
stands_first code i rest allowed is = record {
  allowed = allowed;
  here = is ∙ ap (λ (b : List ℕ). instruction_format.spelling i ++ b) (sym (drop_at (instruction_format.spelling i) rest (length (instruction_format.spelling i)) refl)
      ∙ ap (drop (length (instruction_format.spelling i))) (sym is));
  ends = omega arith;
  within = omega (arith, ap length is, length-append (instruction_format.spelling i) rest);
}

-- bytes after others begin as many places later
pub drop_past : (front code : List ℕ) (place : ℕ) → drop (length front + place) (front ++ code) ≡ drop place code
drop_past front code place =
    sym (drop-drop place (length front) (front ++ code)) ∙ ap (drop place) (drop_at front code (length front) refl)

stands_later : (front code : List ℕ) (place : ℕ) → StandsSome code place → StandsSome (front ++ code) (length front + place)
stands_later front code place some = record {
  it = some.it;
  next = length front + some.next;
  stands = record {
    allowed = some.stands.allowed;
    here = drop_past front code place ∙ some.stands.here
        ∙ ap (λ (b : List ℕ). instruction_format.spelling some.it ++ b) (sym (drop_past front code some.next));
    ends = omega (arith, some.stands.ends);
    within = omega (arith, some.stands.within, length-append front code);
  };
}

none_left : (front rest : List ℕ) → 0 < length rest → [] ≡ front ++ rest → ⊥
none_left front rest some is = omega (arith, some, ap length is, length-append front rest)

-- where instructions are all of a code, one stands after each of its first instructions but the last
stands_after : (code : List ℕ) (front listed : List Instruction) (rest : List ℕ) → IsBytes code → All instruction_format.Allowed front → All instruction_format.Allowed listed
    → 0 < length rest → code ≡ listing_bytes listed → code ≡ listing_bytes front ++ rest → StandsSome code (length (listing_bytes front))
stands_after code [] [] rest are of_front of_listed some whole split = absurd (none_left [] rest some (sym whole ∙ split))
stands_after code [] (i ∷ listed) rest are of_front of_listed some whole split = record {
  it = i;
  next = length (instruction_format.spelling i);
  stands = stands_first code i (listing_bytes listed) (All-head instruction_format.Allowed i listed of_listed) (whole ∙ flat_map-cons instruction_format.spelling i listed);
}
stands_after code (j ∷ front) [] rest are of_front of_listed some whole split = absurd (none_left (listing_bytes (j ∷ front)) rest some (sym whole ∙ split))
stands_after code (j ∷ front) (i ∷ listed) rest are of_front of_listed some whole split =
    let spelling = instruction_format.spelling in
    let whole' : code ≡ spelling i ++ listing_bytes listed = whole ∙ flat_map-cons spelling i listed in
    let split' : code ≡ spelling j ++ (listing_bytes front ++ rest) =
    split ∙ ap (λ (b : List ℕ). b ++ rest) (flat_map-cons spelling j front) ∙ append_assoc (spelling j) (listing_bytes front) rest in
    let same : i ≡ j = one_instruction code i j _ _ are
    (stands_first code i (listing_bytes listed) (All-head instruction_format.Allowed i listed of_listed) whole')
    (stands_first code j (listing_bytes front ++ rest) (All-head instruction_format.Allowed j front of_front) split') in
    let split'' : code ≡ spelling i ++ (listing_bytes front ++ rest) = subst (λ (k : Instruction). code ≡ spelling k ++ (listing_bytes front ++ rest)) (sym same) split' in
    let tails : listing_bytes listed ≡ listing_bytes front ++ rest = append_cancel_left (spelling i) (listing_bytes listed) (listing_bytes front ++ rest) (sym whole' ∙ split'') in
    let dropped : drop (length (spelling i)) code ≡ listing_bytes listed = ap (drop (length (spelling i))) whole' ∙ drop_at (spelling i) (listing_bytes listed) (length (spelling i)) refl in
    let some_later = stands_after (listing_bytes listed) front listed rest (subst IsBytes dropped (IsBytes-drop (length (spelling i)) code are))
    (All-tail instruction_format.Allowed j front of_front) (All-tail instruction_format.Allowed i listed of_listed) some refl tails in
    let long : length (spelling i) + length (listing_bytes front) ≡ length (listing_bytes (j ∷ front)) =
    omega (arith, ap (λ (k : Instruction). length (spelling k)) same, ap length (flat_map-cons spelling j front), length-append (spelling j) (listing_bytes front)) in
    subst (λ (c : List ℕ). StandsSome c (length (listing_bytes (j ∷ front)))) (sym whole')
    (subst (λ (n : ℕ). StandsSome (spelling i ++ listing_bytes listed) n) long (stands_later (spelling i) (listing_bytes listed) (length (listing_bytes front)) some_later))

some_bytes : (bytes : List ℕ) → bytes ≢ [] → 0 < length bytes
some_bytes [] some = absurd (some refl)
some_bytes (x ∷ bytes) some = omega arith

pub listing_clear : (name : List ℕ) → IsClearInput (listing_input name)
listing_clear name bytes value place are is (inl faulty) = omega (arith, faulty.0, is.short)
listing_clear name bytes value place are is (inr faulty) =
    let lacks = faulty.1.2 in
    let there = stands_after bytes lacks.listed value lacks.rest are lacks.allowed is.allowed (some_bytes lacks.rest lacks.some) is.whole lacks.split in
    lacks.none there.it there.next (subst (λ (n : ℕ). Stands bytes n there.it there.next) (sym lacks.here) there.stands)

-- ---- the text of secrets

pub secrets_clear : (name : List ℕ) → IsClearInput (secrets_input name)
secrets_clear name bytes value place are is faulty =
    let fails = faulty.2 in
    let same = HasLines-same bytes is.lines fails.lines is.has fails.has in
    FailsAtLine-none AreSecrets fails.lines value faulty.0 (subst (λ (x : List (List ℕ)). AreSecrets x value) same is.stands) fails.fails
