-- What the ends of the calls below give for the answers.
use Rattle.std.proofs.Common.{◌≡◌, ℕ, List, ◌++◌, length, take, drop, Some, refl, sym, ap, ◌∙◌}
use Rattle.std.proofs.lemmas.List.{take-append-drop}
use Rattle.mb_model.specs.declared.key.PublicKey.{PublicKey}
use Rattle.mb_model.specs.chains.Acceptance.{IsRefused}
use Rattle.mb_model.specs.chains.Acceptance as acceptance
use Rattle.mb_policy.specs.Policies.{PolicyItem}
use Rattle.mb_verifier.specs.declared.refusal.ChainRefusal.{ChainRefusal}
use Rattle.mb_verifier.specs.declared.refusal.ChainRefusal.TheVariants as why
use Rattle.mb_verifier.specs.Ends.{chain_refusal_of}
use Rattle.mb_library.specs.Details.{end_code, end_details}
use Rattle.mb_library.specs.Chains.{ChainEnd, chain_not_accepted, chain_without_memory}
use Rattle.mb_library.specs.Judging.{TrustEnd, trust_not_accepted, trust_without_memory}

-- a piece that is written to the front
pub put_front : (text old new : List ℕ) (n : ℕ) → n ≡ length text → take n new ≡ text → drop n new ≡ drop n old
    → new ≡ text ++ drop (length text) old
put_front text old new n is front back =
    sym (take-append-drop n new)
    ∙ ap (λ (x : List ℕ). x ++ drop n new) front
    ∙ ap (λ (x : List ℕ). text ++ x) (back ∙ ap (λ (m : ℕ). drop m old) is)

-- the verifier refuses a chain for what its end names
abbrev pub RefusesAs : PublicKey → List ℕ → ℕ → ChainRefusal → Type 0
RefusesAs maker chain key end =
    (refusal : acceptance.ChainRefusal) → chain_refusal_of end ≡ Some refusal → IsRefused maker chain key refusal

pub chain_ends : (maker : PublicKey) (chain : List ℕ) (key : ℕ) (old : List ℕ) (end : ChainRefusal)
    → RefusesAs maker chain key end → ChainEnd maker chain key old old (end_details end) (end_code end)
chain_ends maker chain key old (why.Form at) is = chain_not_accepted (acceptance.bad_form at) refl refl (is _ refl) refl
chain_ends maker chain key old (why.Signature entry) is = chain_not_accepted (acceptance.bad_signature entry) refl refl (is _ refl) refl
chain_ends maker chain key old (why.Order entry) is = chain_not_accepted (acceptance.bad_order entry) refl refl (is _ refl) refl
chain_ends maker chain key old (why.Rules entry) is = chain_not_accepted (acceptance.breaks_rules entry) refl refl (is _ refl) refl
chain_ends maker chain key old why.KeyUnknown is = chain_not_accepted acceptance.key_unknown refl refl (is _ refl) refl
chain_ends maker chain key old why.StatementSignature is = chain_not_accepted acceptance.bad_statement refl refl (is _ refl) refl
chain_ends maker chain key old (why.StatementNumber named last) is = chain_not_accepted (acceptance.wrong_number named last) refl refl (is _ refl) refl
chain_ends maker chain key old why.NotAlive is = chain_not_accepted acceptance.key_ended refl refl (is _ refl) refl
chain_ends maker chain key old why.NoMemory is = chain_without_memory refl refl refl

pub trust_ends : (maker : PublicKey) (chain : List ℕ) (key : ℕ) (items : List PolicyItem) (end : ChainRefusal)
    → RefusesAs maker chain key end → TrustEnd maker chain key items (end_details end) (end_code end)
trust_ends maker chain key items (why.Form at) is = trust_not_accepted (acceptance.bad_form at) refl refl (is _ refl)
trust_ends maker chain key items (why.Signature entry) is = trust_not_accepted (acceptance.bad_signature entry) refl refl (is _ refl)
trust_ends maker chain key items (why.Order entry) is = trust_not_accepted (acceptance.bad_order entry) refl refl (is _ refl)
trust_ends maker chain key items (why.Rules entry) is = trust_not_accepted (acceptance.breaks_rules entry) refl refl (is _ refl)
trust_ends maker chain key items why.KeyUnknown is = trust_not_accepted acceptance.key_unknown refl refl (is _ refl)
trust_ends maker chain key items why.StatementSignature is = trust_not_accepted acceptance.bad_statement refl refl (is _ refl)
trust_ends maker chain key items (why.StatementNumber named last) is = trust_not_accepted (acceptance.wrong_number named last) refl refl (is _ refl)
trust_ends maker chain key items why.NotAlive is = trust_not_accepted acceptance.key_ended refl refl (is _ refl)
trust_ends maker chain key items why.NoMemory is = trust_without_memory refl refl
