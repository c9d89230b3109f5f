-- Which refusal an answer names.
use Rattle.std.specs.Prelude.{Option, Some, None}
use Rattle.mb_model.specs.chains.Acceptance as acceptance
use Rattle.mb_verifier.specs.declared.refusal.ChainRefusal.{ChainRefusal}
use Rattle.mb_verifier.specs.declared.refusal.ChainRefusal.TheVariants as why

-- the refusal that an answer names; a failed allocation is no refusal of the chain
abbrev pub chain_refusal_of : ChainRefusal → Option acceptance.ChainRefusal
chain_refusal_of (why.Form at) = Some (acceptance.bad_form at)
chain_refusal_of (why.Signature entry) = Some (acceptance.bad_signature entry)
chain_refusal_of (why.Order entry) = Some (acceptance.bad_order entry)
chain_refusal_of (why.Rules entry) = Some (acceptance.breaks_rules entry)
chain_refusal_of why.KeyUnknown = Some acceptance.key_unknown
chain_refusal_of why.StatementSignature = Some acceptance.bad_statement
chain_refusal_of (why.StatementNumber named last) = Some (acceptance.wrong_number named last)
chain_refusal_of why.NotAlive = Some acceptance.key_ended
chain_refusal_of why.NoMemory = None
