-- Two instructions that stand at one place are one, whether or not the rest of the code is bytes.
use Rattle.std.proofs.Common.{◌≡◌, ◌≤◌, ◌<◌, ◌⊎◌, ℕ, zero, suc, ◌+◌, ◌%◌, ◌/◌, inl, inr, List, [], ◌∷◌, ◌++◌, length, drop, Bool, true, false, refl, sym, ap, subst, ◌∙◌, arith, append-nil, length-append}
use Rattle.std.specs.Prelude.{◌&&◌, nat_le, get_or, IsTrue}
use Rattle.std.specs.Int.{w8, w16, w32, to_be_bytes}
use Rattle.std.specs.List.{list_all}
use Rattle.std.proofs.lemmas.Bool.{cases_lt, and_parts}
use Rattle.mb_format.specs.Format.{IsBytes, SpelledAt}
use Rattle.mb_format.specs.Combinators.{number_bytes}
use Rattle.mb_format.proofs.Exact.{IsClear-from_exact, IsBytes-none, IsBytes-cons, IsBytes-append}
use Rattle.mb_model.specs.records.RegionFormat.{is_name, is_name_byte}
use Rattle.mb_model_lemmas.proofs.ListLemmas.{front_of}
use Rattle.mb_model.specs.declared.instruction.Instruction.{Instruction}
use Rattle.mb_model.specs.declared.instruction.Instruction.TheVariants as instruction
use Rattle.mb_model.specs.application.Instructions.{opcode_byte, opcode_of, instruction_format, Stands}
use Rattle.mb_model_lemmas.proofs.InstructionLemmas.{instruction_exact}

byte_is_bytes : (n : ℕ) → IsBytes (to_be_bytes w8 n)
byte_is_bytes n = IsBytes-cons (n % 256) [] (omega arith) IsBytes-none

half_is_bytes : (n : ℕ) → IsBytes (to_be_bytes w16 n)
half_is_bytes n = IsBytes-cons (n / 256 % 256) (n % 256 ∷ []) (omega arith) (byte_is_bytes n)

word_is_bytes : (n : ℕ) → IsBytes (to_be_bytes w32 n)
word_is_bytes n =
    IsBytes-cons (n / 16777216 % 256) (n / 65536 % 256 ∷ n / 256 % 256 ∷ n % 256 ∷ []) (omega arith)
    (IsBytes-cons (n / 65536 % 256) (n / 256 % 256 ∷ n % 256 ∷ []) (omega arith) (half_is_bytes n))

small_byte : (byte : ℕ) → is_name_byte byte ≡ true → byte < 256
small_byte byte e = grind (arith, (and_parts (nat_le 33 byte) (nat_le byte 126) e).1)

name_is_bytes : (name : List ℕ) → list_all is_name_byte name ≡ true → IsBytes name
name_is_bytes [] e = IsBytes-none
name_is_bytes (byte ∷ name) e =
    let parts = and_parts (is_name_byte byte) (list_all is_name_byte name) e in
    IsBytes-cons byte name (small_byte byte parts.0) (name_is_bytes name parts.1)

spelled_bytes : (it : Instruction) → instruction_format.Allowed it → IsBytes (instruction_format.spelling it)
unfolding instruction_format number_bytes
spelled_bytes (instruction.Plain kind) allowed = IsBytes-append (to_be_bytes w8 (opcode_byte (opcode_of (instruction.Plain kind)))) [] (byte_is_bytes (opcode_byte (opcode_of (instruction.Plain kind)))) IsBytes-none
spelled_bytes (instruction.Push n) allowed = IsBytes-append (to_be_bytes w8 1) (to_be_bytes w32 n) (byte_is_bytes 1) (word_is_bytes n)
spelled_bytes (instruction.Jump to) allowed = IsBytes-append (to_be_bytes w8 32) (to_be_bytes w16 to) (byte_is_bytes 32) (half_is_bytes to)
spelled_bytes (instruction.JumpZero to) allowed = IsBytes-append (to_be_bytes w8 33) (to_be_bytes w16 to) (byte_is_bytes 33) (half_is_bytes to)
spelled_bytes (instruction.Call to) allowed = IsBytes-append (to_be_bytes w8 34) (to_be_bytes w16 to) (byte_is_bytes 34) (half_is_bytes to)
spelled_bytes (instruction.Get name) allowed =
    IsBytes-append (to_be_bytes w8 67) (to_be_bytes w8 (length name) ++ name) (byte_is_bytes 67)
    (IsBytes-append (to_be_bytes w8 (length name)) name (byte_is_bytes (length name)) (name_is_bytes name allowed.1.1.1))

-- spelled alone, the longer of two that stand at one place begins with the shorter
alone : (i j : Instruction) (more : List ℕ) → instruction_format.Allowed i → instruction_format.Allowed j → instruction_format.spelling j ≡ instruction_format.spelling i ++ more
    → i ≡ j
alone i j more may_i may_j split =
    let text : List ℕ = instruction_format.spelling j in
    let first : SpelledAt instruction_format.spelling instruction_format.Allowed text 0 i (length (instruction_format.spelling i)) = record {
      allowed = may_i;
      here = split ∙ ap (λ (m : List ℕ). instruction_format.spelling i ++ m) (sym (rest_of (instruction_format.spelling i) more text split));
      ends = omega arith;
      within = omega (arith, ap length split, length-append (instruction_format.spelling i) more);
    } in
    let second : SpelledAt instruction_format.spelling instruction_format.Allowed text 0 j (length text) = record {
      allowed = may_j;
      here = sym (append-nil text) ∙ ap (λ (m : List ℕ). text ++ m) (sym (rest_of text [] text (sym (append-nil text))));
      ends = omega arith;
      within = omega arith;
    } in
    ((IsClear-from_exact instruction_exact).one_value text 0 i j _ _ (record { are_bytes = spelled_bytes j may_j; within = omega arith }) first second).0
  where
    rest_of : (a b c : List ℕ) → c ≡ a ++ b → drop (length a) c ≡ b
    rest_of [] b c e = e
    rest_of (x ∷ a) b [] e = absurd (omega (arith, ap length e))
    rest_of (x ∷ a) b (y ∷ c) e = rest_of a b c cc

pub one_instruction_anywhere : (code : List ℕ) (place : ℕ) (i j : Instruction) (m n : ℕ) → Stands code place i m → Stands code place j n → (i ≡ j) × (m ≡ n)
one_instruction_anywhere code place i j m n a b =
    let same : instruction_format.spelling i ++ drop m code ≡ instruction_format.spelling j ++ drop n code = sym a.here ∙ b.here in
    let one : i ≡ j = (elim (cases_lt (length (instruction_format.spelling i)) (length (instruction_format.spelling j))) [
      | inl less ↦ let more = front_of (instruction_format.spelling i) (instruction_format.spelling j) (drop m code) (drop n code) same (omega (arith, less)) in alone i j more.0 a.allowed b.allowed more.1
      | inr most ↦ let more = front_of (instruction_format.spelling j) (instruction_format.spelling i) (drop n code) (drop m code) (sym same) most in sym (alone j i more.0 b.allowed a.allowed more.1)
    ]) in
    (one, a.ends ∙ ap (λ (k : Instruction). place + length (instruction_format.spelling k)) one ∙ sym b.ends)
