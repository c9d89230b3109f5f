-- Two ends of a command that serves no device are alike.
use Rattle.std.proofs.Common.{◌≡◌, ℕ, List, Option, None, Some, sym, ◌∙◌, ap, subst}
use Rattle.mb_format.specs.Format.{IsBytes}
use Rattle.mb_model.specs.declared.entry.Chain.{Chain}
use Rattle.mb_model.specs.declared.key.PublicKey.{PublicKey}
use Rattle.mb_model.specs.declared.order.Order.{Order}
use Rattle.mb_model.specs.declared.state.State.{State}
use Rattle.mb_model.specs.declared.tools.Keyfile.{Keyfile}
use Rattle.mb_model.specs.chains.Acceptance.{Verdict, chain_acceptance, chain_rejection, IsVerdict}
use Rattle.mb_model_commands.specs.Keygen.{KeygenNames, keygen}
use Rattle.mb_model_commands.specs.Sign.{SignNames, CountersignNames, sign, countersign, sign_by, use_index}
use Rattle.mb_model_commands.specs.FactoryCommand.{FactoryNames, factory, make_device, write_device}
use Rattle.mb_model_commands.specs.VerifyCommand.{VerifyNames, verify, tell_verdict}
use Rattle.mb_model_commands.specs.AuditCommand.{AuditNames, audit, audit_chain, compare}
use Rattle.mb_model_commands.specs.ChainCommands.{ChainNames, AttachNames, chain, chain_of, attach, attach_statement, write_entries}
use Rattle.mb_model_lemmas.proofs.ChainLemmas.{one_refusal, never_both, one_report}
use Rattle.mb_top_laws.proofs.AlikeSteps.{Alike, alike_read, alike_found, alike_either, alike_write, alike_print, alike_refuse}
use Rattle.mb_top_laws.proofs.InputsOnce.{leading_once, bounded_once, whole_once, key_once, owner_once, root_once, chain_once, draft_once, order_once, statement_once, image_once}

-- ---- keys and orders

pub keygen_alike : (names : KeygenNames) → Alike (keygen names) (keygen names)
unfolding keygen
keygen_alike names = alike_read _ _ (leading_once _ _ _) (λ bytes value are is. alike_write _ _ (alike_write _ _ (alike_print _)))

use_alike : (key_name out : List ℕ) (key : Keyfile) (order : Order) → Alike (use_index key_name out key order) (use_index key_name out key order)
unfolding use_index
use_alike key_name out key order = alike_write _ _ (alike_write _ _ (alike_print _))

pub sign_by_alike : (key_name out : List ℕ) (key : Keyfile) (order : Order) → Alike (sign_by key_name out key order) (sign_by key_name out key order)
unfolding sign_by
sign_by_alike key_name out key order = alike_either _ _ _ (λ is. alike_refuse _) (λ not. use_alike key_name out key order)

pub sign_alike : (names : SignNames) → Alike (sign names) (sign names)
unfolding sign
sign_alike names = alike_read _ _ (key_once _) (λ bytes key are is. alike_read _ _ (draft_once _) (λ text order are is. sign_by_alike _ _ _ _))

pub countersign_alike : (names : CountersignNames) → Alike (countersign names) (countersign names)
unfolding countersign
countersign_alike names = alike_read _ _ (key_once _) (λ bytes key are is. alike_read _ _ (order_once _) (λ text order are is.
    alike_either _ _ _ (λ not. alike_refuse _) (λ may. sign_by_alike _ _ _ _)))

-- ---- a new device

write_device_alike : (names : FactoryNames) (noise : List ℕ) (key : Keyfile) (image : List ℕ) → Alike (write_device names noise key image) (write_device names noise key image)
unfolding write_device
write_device_alike names noise key image = alike_write _ _ (alike_write _ _ (alike_print _))

make_device_alike : (names : FactoryNames) (noise : List ℕ) (key : Keyfile) (owner : PublicKey) (code : List ℕ)
    → Alike (make_device names noise key owner code) (make_device names noise key owner code)
unfolding make_device
make_device_alike names noise key owner code = alike_either _ _ _ (λ spent. alike_refuse _)
    (λ left. alike_found _ _ (λ a b is also. is.written ∙ sym also.written) (λ image is. write_device_alike names noise key image))

pub factory_alike : (names : FactoryNames) → Alike (factory names) (factory names)
unfolding factory
factory_alike names = alike_read _ _ (leading_once _ _ _) (λ bytes noise are is. alike_read _ _ (key_once _) (λ bytes key are is.
    alike_read _ _ (owner_once _) (λ bytes owner are is. alike_read _ _ (bounded_once _ _ _) (λ bytes code are is. make_device_alike names noise key owner code))))

-- ---- chains

pub one_verdict : (maker : PublicKey) (bytes : List ℕ) (number : ℕ) (a b : Verdict) → IsBytes bytes → IsVerdict maker bytes number a → IsVerdict maker bytes number b → a ≡ b
one_verdict maker bytes number (chain_acceptance a) (chain_acceptance b) are is also = ap chain_acceptance (one_report maker bytes number a b are is also)
one_verdict maker bytes number (chain_acceptance a) (chain_rejection b) are is also = absurd (never_both maker bytes number a b are is also)
one_verdict maker bytes number (chain_rejection a) (chain_acceptance b) are is also = absurd (never_both maker bytes number b a are also is)
one_verdict maker bytes number (chain_rejection a) (chain_rejection b) are is also = ap chain_rejection (one_refusal maker bytes number a b are is also)

tell_alike : (number : ℕ) (verdict : Verdict) → Alike (tell_verdict number verdict) (tell_verdict number verdict)
tell_alike number (chain_acceptance report) = alike_print _
tell_alike number (chain_rejection why) = alike_refuse _

-- bytes that were read whole are bytes
pub whole_bytes : (bytes whole : List ℕ) → IsBytes bytes → whole ≡ bytes → IsBytes whole
whole_bytes bytes whole are is = subst IsBytes (sym is) are

pub verify_alike : (names : VerifyNames) → Alike (verify names) (verify names)
unfolding verify
verify_alike names = alike_read _ _ (root_once _) (λ bytes maker are is. alike_read _ _ (whole_once _ _) (λ text chain are is.
    alike_found _ _ (λ a b one other. one_verdict maker chain names.key a b (whole_bytes text chain are is) one other) (λ verdict told. tell_alike names.key verdict)))

compare_alike : (state : State) (number : ℕ) (verdict : Verdict) → Alike (compare state number verdict) (compare state number verdict)
compare_alike state number (chain_acceptance report) = alike_either _ _ _ (λ same. alike_print _) (λ not. alike_refuse _)
compare_alike state number (chain_rejection why) = alike_refuse _

audit_chain_alike : (names : AuditNames) (state : Option State) (maker : PublicKey) (bytes : List ℕ) → IsBytes bytes
    → Alike (audit_chain names state maker bytes) (audit_chain names state maker bytes)
audit_chain_alike names None maker bytes are = alike_refuse _
audit_chain_alike names (Some state) maker bytes are =
    alike_found _ _ (λ a b is also. one_verdict maker bytes names.key a b are is.is also.is) (λ verdict told. compare_alike state names.key verdict)

pub audit_alike : (names : AuditNames) → Alike (audit names) (audit names)
unfolding audit
audit_alike names = alike_read _ _ (image_once _) (λ bytes image are is. alike_read _ _ (root_once _) (λ bytes maker are is.
    alike_read _ _ (whole_once _ _) (λ text chain are is. audit_chain_alike names image.state maker chain (whole_bytes text chain are is))))

write_entries_alike : (out : List ℕ) (chain : Chain) → Alike (write_entries out chain) (write_entries out chain)
unfolding write_entries
write_entries_alike out chain = alike_found _ _ (λ a b is also. is.whole ∙ sym also.whole) (λ bytes is. alike_write _ _ (alike_print _))

chain_of_alike : (names : ChainNames) (state : Option State) → Alike (chain_of names state) (chain_of names state)
chain_of_alike names None = alike_refuse _
chain_of_alike names (Some state) = alike_found _ _ (λ a b is also. is.is ∙ sym also.is) (λ chain is. write_entries_alike names.out chain)

pub chain_alike : (names : ChainNames) → Alike (chain names) (chain names)
unfolding chain
chain_alike names = alike_read _ _ (image_once _) (λ bytes image are is. chain_of_alike names image.state)

pub attach_alike : (names : AttachNames) → Alike (attach names) (attach names)
unfolding attach attach_statement
attach_alike names = alike_read _ _ (chain_once _) (λ bytes chain are is. alike_read _ _ (statement_once _) (λ text statement are is.
    alike_either _ _ _ (λ has. alike_refuse _) (λ not. write_entries_alike names.out _)))
