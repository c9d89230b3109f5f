-- The bytes that a call is given determine what it answers.
use Rattle.std.proofs.Common.{◌≡◌, ◌≢◌, ◌⊎◌, ℕ, ◌<◌, ◌≤◌, List, length, inl, inr, sym, ap, subst, ◌∙◌, arith}
use Rattle.mb_format.specs.Format.{IsBytes}
use Rattle.mb_model.specs.declared.limits.TheConstants.{FILE_LIMIT}
use Rattle.mb_model.specs.declared.key.PublicKey.{PublicKey}
use Rattle.mb_model.specs.declared.state.Report.{Report}
use Rattle.mb_model.specs.signatures.Merkle.{Verifies}
use Rattle.mb_model.specs.chains.Acceptance.{refusal_code}
use Rattle.mb_model.specs.chains.Lines.{text_of}
use Rattle.mb_model.specs.chains.Listing.{listing}
use Rattle.mb_model_lemmas.proofs.ChainLemmas.{one_refusal, never_both, one_report}
use Rattle.mb_policy.specs.declared.judging.Judgement.{Judgement}
use Rattle.mb_policy.specs.declared.judging.Judgement.TheVariants as judgement
use Rattle.mb_policy.specs.Policies.{PolicyItem}
use Rattle.mb_policy.specs.Judging.{IsJudged}
use Rattle.mb_policy.proofs.Clearness.{policies_clear, judgements_clear}
use Rattle.mb_library.specs.declared.details.Details.{Details}
use Rattle.mb_library.specs.Details.{no_details, refusal_details}
use Rattle.mb_library.specs.Signatures.{IsLmsSigned, IsNotLmsSigned, signature_accepted, key_not_spelled, signature_refused}
use Rattle.mb_library.specs.Chains.{ListingEnd, listing_put, listing_without_room, ChainEnd, chain_accepted, chain_not_accepted, chain_without_memory, chain_read, chain_too_long, chain_under_no_key}
use Rattle.mb_library.specs.Judging.{ReportEnd, report_allowed, report_denied, report_without_memory, TrustEnd, trust_judged, trust_not_accepted, trust_without_memory}
use Rattle.mb_library.specs.Judging.{trust_by_policy_text, trust_by_no_policy, trust_unread, trust_too_long, trust_under_no_key, AreShort}
use Rattle.mb_library.specs.Stated.{stated_of, SaidEnd, said_accepted, said_not_accepted, said_without_memory, said_read, said_too_long, said_under_no_key}
use Rattle.mb_library.specs.declared.stated.Stated.{Stated}
use Rattle.mb_library.specs.Laws.{LmsAnswersAreDetermined, ChainAnswersAreDetermined, SaidAnswersAreDetermined, TrustAnswersAreDetermined}
use Rattle.mb_library.proofs.KeyBytes.{one_key}

-- ---- signatures

signed_or_not : (key text sig : List ℕ) → IsLmsSigned key text sig → IsNotLmsSigned key text sig → ⊥
signed_or_not key text sig signed not =
    not.differs (subst (λ (k : PublicKey). Verifies k text sig) (one_key key signed.key not.key signed.spelled not.spelled) signed.verifies)

pub lms_determined : LmsAnswersAreDetermined
lms_determined key text sig a b (signature_accepted x signed) (signature_accepted y also) = x ∙ sym y
lms_determined key text sig a b (signature_accepted x signed) (key_not_spelled y none) = absurd (none signed.key signed.spelled)
lms_determined key text sig a b (signature_accepted x signed) (signature_refused y not) = absurd (signed_or_not key text sig signed not)
lms_determined key text sig a b (key_not_spelled x none) (signature_accepted y signed) = absurd (none signed.key signed.spelled)
lms_determined key text sig a b (key_not_spelled x none) (key_not_spelled y also) = x ∙ sym y
lms_determined key text sig a b (key_not_spelled x none) (signature_refused y not) = absurd (none not.key not.spelled)
lms_determined key text sig a b (signature_refused x not) (signature_accepted y signed) = absurd (signed_or_not key text sig signed not)
lms_determined key text sig a b (signature_refused x not) (key_not_spelled y none) = absurd (none not.key not.spelled)
lms_determined key text sig a b (signature_refused x not) (signature_refused y also) = x ∙ sym y

-- ---- chains

-- no length is both within a limit and above it
within_or_above : (m n : ℕ) → m ≤ n → n < m → ⊥
within_or_above m n within above = omega (arith, within, above)

listings_determined : (text old one other : List ℕ) (told said : Details) (a b : ℕ)
    → ListingEnd text old one told a → ListingEnd text old other said b
    → (a ≡ b) × (one ≡ other) × (told ≡ said)
listings_determined text old one other told said a b (listing_put x t room new) (listing_put y s _ also) =
    (x ∙ sym y, new ∙ sym also, t ∙ sym s)
listings_determined text old one other told said a b (listing_put x t room new) (listing_without_room y s lacks same) =
    absurd (within_or_above (length text) (length old) room lacks)
listings_determined text old one other told said a b (listing_without_room x t lacks same) (listing_put y s room new) =
    absurd (within_or_above (length text) (length old) room lacks)
listings_determined text old one other told said a b (listing_without_room x t _ same) (listing_without_room y s _ also) =
    (x ∙ sym y, same ∙ sym also, t ∙ sym s)

chain_ends_determined : (maker : PublicKey) (chain : List ℕ) (n : ℕ) (old one other : List ℕ) (told said : Details) (a b : ℕ)
    → IsBytes chain → ChainEnd maker chain n old one told a → ChainEnd maker chain n old other said b → a ≢ 4 → b ≢ 4
    → (a ≡ b) × (one ≡ other) × (told ≡ said)
chain_ends_determined maker chain n old one other told said a b are (chain_accepted r is put) (chain_accepted q also placed) na nb =
    let same : q ≡ r = one_report maker chain n q r are also is in
    listings_determined _ old one other told said a b put
    (subst (λ (it : Report). ListingEnd (text_of (listing n it)) old other said b) same placed)
chain_ends_determined maker chain n old one other told said a b are (chain_accepted r is put) (chain_not_accepted why y s refused also) na nb =
    absurd (never_both maker chain n r why are is refused)
chain_ends_determined maker chain n old one other told said a b are (chain_accepted r is put) (chain_without_memory y s also) na nb = absurd (nb y)
chain_ends_determined maker chain n old one other told said a b are (chain_not_accepted why x t refused same) (chain_accepted r is put) na nb =
    absurd (never_both maker chain n r why are is refused)
chain_ends_determined maker chain n old one other told said a b are (chain_not_accepted why x t refused same) (chain_not_accepted for y s also still) na nb =
    let alike : why ≡ for = one_refusal maker chain n why for are refused also in
    (x ∙ ap refusal_code alike ∙ sym y, same ∙ sym still, t ∙ ap refusal_details alike ∙ sym s)
chain_ends_determined maker chain n old one other told said a b are (chain_not_accepted why x t refused same) (chain_without_memory y s also) na nb =
    absurd (nb y)
chain_ends_determined maker chain n old one other told said a b are (chain_without_memory x t same) end na nb = absurd (na x)

pub chains_determined : ChainAnswersAreDetermined
chains_determined maker chain n old one other told said a b are (chain_read k spells short end) (chain_read l also _ ended) na nb =
    let same : l ≡ k = one_key maker l k also spells in
    chain_ends_determined k chain n old one other told said a b are end
    (subst (λ (it : PublicKey). ChainEnd it chain n old other said b) same ended) na nb
chains_determined maker chain n old one other told said a b are (chain_read k spells short end) (chain_too_long l also long y s still) na nb =
    absurd (within_or_above (length chain) FILE_LIMIT short long)
chains_determined maker chain n old one other told said a b are (chain_read k spells short end) (chain_under_no_key none y s still) na nb =
    absurd (none k spells)
chains_determined maker chain n old one other told said a b are (chain_too_long k spells long x t same) (chain_read l also short end) na nb =
    absurd (within_or_above (length chain) FILE_LIMIT short long)
chains_determined maker chain n old one other told said a b are (chain_too_long k spells long x t same) (chain_too_long l also _ y s still) na nb =
    (x ∙ sym y, same ∙ sym still, t ∙ sym s)
chains_determined maker chain n old one other told said a b are (chain_too_long k spells long x t same) (chain_under_no_key none y s still) na nb =
    absurd (none k spells)
chains_determined maker chain n old one other told said a b are (chain_under_no_key none x t same) (chain_read l also short end) na nb =
    absurd (none l also)
chains_determined maker chain n old one other told said a b are (chain_under_no_key none x t same) (chain_too_long l also _ y s still) na nb =
    absurd (none l also)
chains_determined maker chain n old one other told said a b are (chain_under_no_key none x t same) (chain_under_no_key _ y s still) na nb =
    (x ∙ sym y, same ∙ sym still, t ∙ sym s)

-- ---- statements

said_ends_determined : (maker : PublicKey) (chain : List ℕ) (n : ℕ) (one other : Stated) (told said : Details) (a b : ℕ)
    → IsBytes chain → SaidEnd maker chain n one told a → SaidEnd maker chain n other said b → a ≢ 4 → b ≢ 4
    → (a ≡ b) × (one ≡ other) × (told ≡ said)
said_ends_determined maker chain n one other told said a b are (said_accepted r is x t says) (said_accepted q also y s say) na nb =
    let same : q ≡ r = one_report maker chain n q r are also is in
    (x ∙ sym y, says ∙ ap (λ (it : Report). stated_of it.said) (sym same) ∙ sym say, t ∙ sym s)
said_ends_determined maker chain n one other told said a b are (said_accepted r is x t says) (said_not_accepted why y s refused none) na nb =
    absurd (never_both maker chain n r why are is refused)
said_ends_determined maker chain n one other told said a b are (said_accepted r is x t says) (said_without_memory y s none) na nb = absurd (nb y)
said_ends_determined maker chain n one other told said a b are (said_not_accepted why x t refused none) (said_accepted r is y s says) na nb =
    absurd (never_both maker chain n r why are is refused)
said_ends_determined maker chain n one other told said a b are (said_not_accepted why x t refused none) (said_not_accepted for y s also still) na nb =
    let alike : why ≡ for = one_refusal maker chain n why for are refused also in
    (x ∙ ap refusal_code alike ∙ sym y, none ∙ sym still, t ∙ ap refusal_details alike ∙ sym s)
said_ends_determined maker chain n one other told said a b are (said_not_accepted why x t refused none) (said_without_memory y s still) na nb =
    absurd (nb y)
said_ends_determined maker chain n one other told said a b are (said_without_memory x t none) end na nb = absurd (na x)

pub said_determined : SaidAnswersAreDetermined
said_determined maker chain n one other told said a b are (said_read k spells short end) (said_read l also _ ended) na nb =
    let same : l ≡ k = one_key maker l k also spells in
    said_ends_determined k chain n one other told said a b are end
    (subst (λ (it : PublicKey). SaidEnd it chain n other said b) same ended) na nb
said_determined maker chain n one other told said a b are (said_read k spells short end) (said_too_long l also long y s still) na nb =
    absurd (within_or_above (length chain) FILE_LIMIT short long)
said_determined maker chain n one other told said a b are (said_read k spells short end) (said_under_no_key none y s still) na nb =
    absurd (none k spells)
said_determined maker chain n one other told said a b are (said_too_long k spells long x t same) (said_read l also short end) na nb =
    absurd (within_or_above (length chain) FILE_LIMIT short long)
said_determined maker chain n one other told said a b are (said_too_long k spells long x t same) (said_too_long l also _ y s still) na nb =
    (x ∙ sym y, same ∙ sym still, t ∙ sym s)
said_determined maker chain n one other told said a b are (said_too_long k spells long x t same) (said_under_no_key none y s still) na nb =
    absurd (none k spells)
said_determined maker chain n one other told said a b are (said_under_no_key none x t same) (said_read l also short end) na nb =
    absurd (none l also)
said_determined maker chain n one other told said a b are (said_under_no_key none x t same) (said_too_long l also _ y s still) na nb =
    absurd (none l also)
said_determined maker chain n one other told said a b are (said_under_no_key none x t same) (said_under_no_key _ y s still) na nb =
    (x ∙ sym y, same ∙ sym still, t ∙ sym s)

-- ---- policies

abbrev judgement_code : Judgement → ℕ
judgement_code judgement.Allowed = 0
judgement_code (judgement.Denied number rule) = 7

abbrev judgement_details : Judgement → Details
judgement_details judgement.Allowed = no_details
judgement_details (judgement.Denied number rule) = record no_details { configuration = number }

-- the end is that of a judgement
record OfJudgement (items : List PolicyItem) (report : Report) (told : Details) (code : ℕ) : Type 0 where
  judged : Judgement
  is : IsJudged items report judged
  code_is : code ≡ judgement_code judged
  told_is : told ≡ judgement_details judged

of_judgement : (items : List PolicyItem) (report : Report) (told : Details) (code : ℕ)
    → ReportEnd items report told code → code ≢ 4 → OfJudgement items report told code
of_judgement items report told code (report_allowed x t allows) not =
    record { judged = judgement.Allowed; is = allows; code_is = x; told_is = t }
of_judgement items report told code (report_denied number rule x t denies) not =
    record { judged = judgement.Denied number rule; is = denies; code_is = x; told_is = t }
of_judgement items report told code (report_without_memory x t) not = absurd (not x)

reports_determined : (items : List PolicyItem) (report : Report) (told said : Details) (a b : ℕ)
    → ReportEnd items report told a → ReportEnd items report said b → a ≢ 4 → b ≢ 4 → (a ≡ b) × (told ≡ said)
reports_determined items report told said a b end ended na nb =
    let one = of_judgement items report told a end na in
    let other = of_judgement items report said b ended nb in
    let same = judgements_clear.one_judgement items report one.judged other.judged one.is other.is in
    (one.code_is ∙ ap judgement_code same ∙ sym other.code_is, one.told_is ∙ ap judgement_details same ∙ sym other.told_is)

trust_ends_determined : (maker : PublicKey) (chain : List ℕ) (n : ℕ) (items : List PolicyItem) (told said : Details) (a b : ℕ)
    → IsBytes chain → TrustEnd maker chain n items told a → TrustEnd maker chain n items said b → a ≢ 4 → b ≢ 4
    → (a ≡ b) × (told ≡ said)
trust_ends_determined maker chain n items told said a b are (trust_judged r is end) (trust_judged q also ended) na nb =
    let same : q ≡ r = one_report maker chain n q r are also is in
    reports_determined items r told said a b end (subst (λ (it : Report). ReportEnd items it said b) same ended) na nb
trust_ends_determined maker chain n items told said a b are (trust_judged r is end) (trust_not_accepted why y s refused) na nb =
    absurd (never_both maker chain n r why are is refused)
trust_ends_determined maker chain n items told said a b are (trust_judged r is end) (trust_without_memory y s) na nb = absurd (nb y)
trust_ends_determined maker chain n items told said a b are (trust_not_accepted why x t refused) (trust_judged r is end) na nb =
    absurd (never_both maker chain n r why are is refused)
trust_ends_determined maker chain n items told said a b are (trust_not_accepted why x t refused) (trust_not_accepted for y s also) na nb =
    let alike : why ≡ for = one_refusal maker chain n why for are refused also in
    (x ∙ ap refusal_code alike ∙ sym y, t ∙ ap refusal_details alike ∙ sym s)
trust_ends_determined maker chain n items told said a b are (trust_not_accepted why x t refused) (trust_without_memory y s) na nb = absurd (nb y)
trust_ends_determined maker chain n items told said a b are (trust_without_memory x t) end na nb = absurd (na x)

-- both are short, or one is too long
short_or_long : (chain policy : List ℕ) → AreShort chain policy
    → (FILE_LIMIT < length chain) ⊎ (FILE_LIMIT < length policy) → ⊥
short_or_long chain policy short (inl long) = within_or_above (length chain) FILE_LIMIT short.short_chain long
short_or_long chain policy short (inr long) = within_or_above (length policy) FILE_LIMIT short.short_policy long

pub trust_determined : TrustAnswersAreDetermined
trust_determined maker chain n policy told said a b are (trust_by_policy_text k items spells short reads end) (trust_by_policy_text l others also _ read ended) na nb =
    let same : l ≡ k = one_key maker l k also spells in
    let alike : others ≡ items = policies_clear.one_policy policy others items read reads in
    trust_ends_determined k chain n items told said a b are end
    (subst (λ (them : List PolicyItem). TrustEnd k chain n them said b) alike
    (subst (λ (it : PublicKey). TrustEnd it chain n others said b) same ended)) na nb
trust_determined maker chain n policy told said a b are (trust_by_policy_text k items spells short reads end) (trust_by_no_policy l line also _ fails y s) na nb =
    absurd (policies_clear.never_both policy items line reads fails)
trust_determined maker chain n policy told said a b are (trust_by_policy_text k items spells short reads end) (trust_unread l also _ y s) na nb = absurd (nb y)
trust_determined maker chain n policy told said a b are (trust_by_policy_text k items spells short reads end) (trust_too_long l also long y s) na nb =
    absurd (short_or_long chain policy short long)
trust_determined maker chain n policy told said a b are (trust_by_policy_text k items spells short reads end) (trust_under_no_key none y s) na nb =
    absurd (none k spells)
trust_determined maker chain n policy told said a b are (trust_by_no_policy k line spells short fails x t) (trust_by_policy_text l items also _ reads end) na nb =
    absurd (policies_clear.never_both policy items line reads fails)
trust_determined maker chain n policy told said a b are (trust_by_no_policy k line spells short fails x t) (trust_by_no_policy l m also _ failed y s) na nb =
    let alike : line ≡ m = policies_clear.one_line policy line m fails failed in
    (x ∙ sym y, t ∙ ap (λ (at : ℕ). record no_details { line = at }) alike ∙ sym s)
trust_determined maker chain n policy told said a b are (trust_by_no_policy k line spells short fails x t) (trust_unread l also _ y s) na nb = absurd (nb y)
trust_determined maker chain n policy told said a b are (trust_by_no_policy k line spells short fails x t) (trust_too_long l also long y s) na nb =
    absurd (short_or_long chain policy short long)
trust_determined maker chain n policy told said a b are (trust_by_no_policy k line spells short fails x t) (trust_under_no_key none y s) na nb =
    absurd (none k spells)
trust_determined maker chain n policy told said a b are (trust_unread k spells short x t) end na nb = absurd (na x)
trust_determined maker chain n policy told said a b are (trust_too_long k spells long x t) (trust_by_policy_text l items also short reads end) na nb =
    absurd (short_or_long chain policy short long)
trust_determined maker chain n policy told said a b are (trust_too_long k spells long x t) (trust_by_no_policy l line also short fails y s) na nb =
    absurd (short_or_long chain policy short long)
trust_determined maker chain n policy told said a b are (trust_too_long k spells long x t) (trust_unread l also _ y s) na nb = absurd (nb y)
trust_determined maker chain n policy told said a b are (trust_too_long k spells long x t) (trust_too_long l also _ y s) na nb = (x ∙ sym y, t ∙ sym s)
trust_determined maker chain n policy told said a b are (trust_too_long k spells long x t) (trust_under_no_key none y s) na nb = absurd (none k spells)
trust_determined maker chain n policy told said a b are (trust_under_no_key none x t) (trust_by_policy_text l items also short reads end) na nb = absurd (none l also)
trust_determined maker chain n policy told said a b are (trust_under_no_key none x t) (trust_by_no_policy l line also short fails y s) na nb = absurd (none l also)
trust_determined maker chain n policy told said a b are (trust_under_no_key none x t) (trust_unread l also _ y s) na nb = absurd (nb y)
trust_determined maker chain n policy told said a b are (trust_under_no_key none x t) (trust_too_long l also _ y s) na nb = absurd (none l also)
trust_determined maker chain n policy told said a b are (trust_under_no_key none x t) (trust_under_no_key _ y s) na nb = (x ∙ sym y, t ∙ sym s)
