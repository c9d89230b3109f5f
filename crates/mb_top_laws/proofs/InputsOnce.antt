-- Each input of a command has one value, or is at fault at one place.
use Rattle.std.proofs.Common.{◌≡◌, ℕ, List, Option, sym, ◌∙◌, ap, subst, arith}
use Rattle.mb_format.specs.Format.{Format, IsClearWhole}
use Rattle.mb_format.proofs.Whole.{IsClearWhole-from_exact}
use Rattle.mb_model.proofs.KeyFormatLaws.{public_key_exact, keyfile_exact}
use Rattle.mb_model.proofs.EntryFormatLaws.{chain_exact}
use Rattle.mb_model.specs.declared.event.Event.{Event}
use Rattle.mb_model.specs.declared.state.State.{State}
use Rattle.mb_model.specs.chains.Lines.{FailsAtLine, TextFailsAtLine}
use Rattle.mb_model_commands.specs.declared.role.Role.{Role}
use Rattle.mb_model_commands.specs.declared.role.Place.TheVariants as fault
use Rattle.mb_model_commands.specs.Commands.{Input}
use Rattle.mb_model_commands.specs.Inputs.{Image, binary_input, text_input, leading_input, bounded_input, key_input, owner_input, draft_input, order_input, image_input, script_input, root_input, chain_input, statement_input, draws_input, fault_place}
use Rattle.mb_model_lemmas.proofs.LineLemmas.{HasLines-same, FailsAtLine-same, FailsAtLine-none}
use Rattle.mb_model_lemmas.proofs.EventLemmas.{IsScript-same}
use Rattle.mb_model_lemmas.proofs.DraftLemmas.{IsDraft-same}
use Rattle.mb_model_lemmas.proofs.OrderLineLemmas.{IsOrderLine-same, IsStatementLine-same}
use Rattle.mb_model_lemmas.proofs.FaultLemmas.{one_fault, well_formed_has_no_fault, well_formed_stands_for_one}
use Rattle.mb_top_laws.proofs.AlikeSteps.{IsReadOnce}

-- ---- kinds of inputs

pub binary_once : {A : Type 0} (role : Role) (format : Format A) (name : List ℕ) → IsClearWhole format → IsReadOnce (binary_input role format name)
binary_once role format name clear = record {
  one_value = λ bytes a b are is also. clear.one_value bytes a b are is also;
  one_place = λ bytes p q are is also. is.1 ∙ ap (λ (n : ℕ). fault.At n) (clear.one_offset bytes is.0 also.0 are is.2 also.2) ∙ sym also.1;
  never_both = λ bytes value place are is wrong. clear.never_both bytes value wrong.0 are is wrong.2;
}

pub text_once : {A : Type 0} (role : Role) (Grammar : List (List ℕ) → A → Type 0) (name : List ℕ)
    → ((lines : List (List ℕ)) (a b : A) → Grammar lines a → Grammar lines b → a ≡ b) → IsReadOnce (text_input role Grammar name)
text_once {A} role Grammar name one = record {
  one_value = λ bytes a b are is also. one also.lines a b (subst (λ (x : List (List ℕ)). Grammar x a) (HasLines-same bytes is.lines also.lines is.has also.has) is.stands) also.stands;
  one_place = λ bytes p q are is also. is.1 ∙ ap (λ (n : ℕ). fault.Line n) (one_line bytes is.0 also.0 is.2 also.2) ∙ sym also.1;
  never_both = λ bytes value place are is wrong. FailsAtLine-none Grammar wrong.2.lines value wrong.0
      (subst (λ (x : List (List ℕ)). Grammar x value) (HasLines-same bytes is.lines wrong.2.lines is.has wrong.2.has) is.stands) wrong.2.fails;
}
  where
    one_line : (text : List ℕ) (m n : ℕ) → TextFailsAtLine Grammar text m → TextFailsAtLine Grammar text n → m ≡ n
    one_line text m n is also = FailsAtLine-same Grammar also.lines m n
        (subst (λ (x : List (List ℕ)). FailsAtLine Grammar x m) (HasLines-same text is.lines also.lines is.has also.has) is.fails) also.fails

pub leading_once : (role : Role) (count : ℕ) (name : List ℕ) → IsReadOnce (leading_input role count name)
leading_once role count name = record {
  one_value = λ bytes a b are is also. is.1 ∙ sym also.1;
  one_place = λ bytes p q are is also. is.1 ∙ sym also.1;
  never_both = λ bytes value place are is wrong. omega (arith, is.0, wrong.0);
}

pub bounded_once : (role : Role) (most : ℕ) (name : List ℕ) → IsReadOnce (bounded_input role most name)
bounded_once role most name = record {
  one_value = λ bytes a b are is also. is.1 ∙ sym also.1;
  one_place = λ bytes p q are is also. is.1 ∙ sym also.1;
  never_both = λ bytes value place are is wrong. omega (arith, is.0, wrong.0);
}

-- bytes as they are, which are never at fault
abbrev pub whole_input : Role → List ℕ → Input (List ℕ)
whole_input role name = record { role = role; name = name; Is = λ bytes whole. whole ≡ bytes; FaultyAt = λ bytes place. ⊥ }

pub whole_once : (role : Role) (name : List ℕ) → IsReadOnce (whole_input role name)
whole_once role name = record {
  one_value = λ bytes a b are is also. is ∙ sym also;
  one_place = λ bytes p q are is also. absurd is;
  never_both = λ bytes value place are is wrong. wrong;
}

-- ---- the inputs

pub key_once : (name : List ℕ) → IsReadOnce (key_input name)
key_once name = binary_once _ _ name (IsClearWhole-from_exact keyfile_exact)

pub owner_once : (name : List ℕ) → IsReadOnce (owner_input name)
owner_once name = binary_once _ _ name (IsClearWhole-from_exact public_key_exact)

pub root_once : (name : List ℕ) → IsReadOnce (root_input name)
root_once name = binary_once _ _ name (IsClearWhole-from_exact public_key_exact)

pub chain_once : (name : List ℕ) → IsReadOnce (chain_input name)
chain_once name = binary_once _ _ name (IsClearWhole-from_exact chain_exact)

pub draft_once : (name : List ℕ) → IsReadOnce (draft_input name)
draft_once name = text_once _ _ name IsDraft-same

pub order_once : (name : List ℕ) → IsReadOnce (order_input name)
order_once name = text_once _ _ name IsOrderLine-same

pub statement_once : (name : List ℕ) → IsReadOnce (statement_input name)
statement_once name = text_once _ _ name IsStatementLine-same

pub script_once : (name : List ℕ) → IsReadOnce (script_input name)
script_once name = text_once _ _ name IsScript-same

one_image : (a b : Image) (bytes : List ℕ) → a.bytes ≡ bytes → b.bytes ≡ bytes → a.state ≡ b.state → a ≡ b
one_image a b bytes is also same =
    ap (λ (x : List ℕ). let i : Image = record { bytes = x; state = a.state } in i) (is ∙ sym also)
    ∙ ap (λ (s : Option State). let i : Image = record { bytes = b.bytes; state = s } in i) same

pub image_once : (name : List ℕ) → IsReadOnce (image_input name)
image_once name = record {
  one_value = λ bytes a b are is also. one_image a b bytes is.0 also.0 (well_formed_stands_for_one bytes a.state b.state are is.1 also.1);
  one_place = λ bytes p q are is also. is.1 ∙ ap fault_place (one_fault bytes is.0 also.0 are is.2 also.2) ∙ sym also.1;
  never_both = λ bytes value place are is wrong. well_formed_has_no_fault bytes value.state wrong.0 are is.1 wrong.2;
}

pub draws_once : (events : List Event) (name : List ℕ) → IsReadOnce (draws_input events name)
draws_once events name = record {
  one_value = λ bytes a b are is also. is.given ∙ sym also.given;
  one_place = λ bytes p q are is also. is.0 ∙ sym also.0;
  never_both = λ bytes value place are is wrong. omega (arith, is.enough, wrong.1);
}
