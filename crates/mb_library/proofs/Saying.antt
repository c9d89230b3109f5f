-- What the statement of an accepted chain says has at most 128 bytes, and what the ends of the calls below give for it.
use Rattle.std.proofs.Common.{◌≡◌, ℕ, ◌≤◌, ◌==◌, Bool, true, false, List, Option, Some, None, refl, sym, subst, arith}
use Rattle.mb_format.specs.Combinators.{either, optional}
use Rattle.mb_model.specs.declared.key.PublicKey.{PublicKey}
use Rattle.mb_model.specs.declared.entry.Said.{Said}
use Rattle.mb_model.specs.declared.entry.Said.TheVariants.{Message, Answer}
use Rattle.mb_model.specs.declared.entry.Statement.{Statement}
use Rattle.mb_model.specs.declared.entry.Chain.{Chain}
use Rattle.mb_model.specs.declared.state.Report.{Report}
use Rattle.mb_model.specs.records.ChainFormat.{said_byte, answered_format, asked_format, said_format, statement_format, chain_format}
use Rattle.mb_model.specs.chains.Acceptance.{Accepts, said_of}
use Rattle.mb_model.specs.chains.Acceptance as acceptance
use Rattle.mb_verifier.specs.declared.refusal.ChainRefusal.{ChainRefusal}
use Rattle.mb_verifier.specs.declared.refusal.ChainRefusal.TheVariants as why
use Rattle.mb_library.specs.Details.{end_code, end_details}
use Rattle.mb_library.specs.Stated.{no_statement, IsShortSaid, SaidEnd, said_not_accepted, said_without_memory}
use Rattle.mb_library.proofs.Ends.{RefusesAs}

-- what follows a byte is what the byte announces
following_short : (size : ℕ) → size ≤ 129 → (b : Bool) → (size == 129) ≡ b → (said : Said) → (either b answered_format (asked_format size)).Allowed said → IsShortSaid (Some said)
unfolding answered_format asked_format
following_short size few true is (Message message) allowed = absurd allowed
following_short size few true is (Answer input answer) allowed = omega (arith, allowed)
following_short size few false is (Message message) allowed = grind (arith, is, few, allowed)
following_short size few false is (Answer input answer) allowed = absurd allowed

said_short : (said : Said) → said_format.Allowed said → IsShortSaid (Some said)
unfolding said_format
said_short said h = following_short (said_byte said) h.0.1 (said_byte said == 129) refl said h.1

statement_short : (statement : Statement) → statement_format.Allowed statement → IsShortSaid (Some statement.said)
unfolding statement_format
statement_short statement h = said_short statement.said h.1.0

attached_short : (o : Option Statement) → (optional statement_format).Allowed o → IsShortSaid (said_of o)
attached_short None h = tt
attached_short (Some statement) h = statement_short statement h.1

chain_short : (chain : Chain) → chain_format.Allowed chain → IsShortSaid (said_of chain.statement)
unfolding chain_format
chain_short chain h = attached_short chain.statement h.1.1

pub accepted_short : (maker : PublicKey) (bytes : List ℕ) (n : ℕ) (report : Report) → Accepts maker bytes n report → IsShortSaid report.said
accepted_short maker bytes n report is = subst (λ (r : Report). IsShortSaid r.said) (sym is.report_is) (chain_short is.chain is.spelled.allowed)

pub said_ends : (maker : PublicKey) (chain : List ℕ) (key : ℕ) (end : ChainRefusal)
    → RefusesAs maker chain key end → SaidEnd maker chain key no_statement (end_details end) (end_code end)
said_ends maker chain key (why.Form at) is = said_not_accepted (acceptance.bad_form at) refl refl (is _ refl) refl
said_ends maker chain key (why.Signature entry) is = said_not_accepted (acceptance.bad_signature entry) refl refl (is _ refl) refl
said_ends maker chain key (why.Order entry) is = said_not_accepted (acceptance.bad_order entry) refl refl (is _ refl) refl
said_ends maker chain key (why.Rules entry) is = said_not_accepted (acceptance.breaks_rules entry) refl refl (is _ refl) refl
said_ends maker chain key why.KeyUnknown is = said_not_accepted acceptance.key_unknown refl refl (is _ refl) refl
said_ends maker chain key why.StatementSignature is = said_not_accepted acceptance.bad_statement refl refl (is _ refl) refl
said_ends maker chain key (why.StatementNumber named last) is = said_not_accepted (acceptance.wrong_number named last) refl refl (is _ refl) refl
said_ends maker chain key why.NotAlive is = said_not_accepted acceptance.key_ended refl refl (is _ refl) refl
said_ends maker chain key why.NoMemory is = said_without_memory refl refl refl
