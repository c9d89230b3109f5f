-- A draft's lines stand for at most one order.
use Rattle.std.proofs.Common.{◌≡◌, ℕ, ◌+◌, ◌*◌, ◌<◌, ◌^◌, List, [], ◌∷◌, ◌++◌, length, get_or, inl, inr, refl, sym, ap, subst, ◌∙◌, arith, lit≤}
use Rattle.std.specs.Prelude.{codes, IsTrue}
use Rattle.std.specs.List.{AllZip}
use Rattle.std.specs.Fmt.{digits, decimal}
use Rattle.std.proofs.lemmas.Fmt.{decimal_injective}
use Rattle.std.proofs.lemmas.List.{append_cancel_left}
use Rattle.mb_model.specs.declared.key.Trust.{Trust}
use Rattle.mb_model.specs.declared.key.Trust.TheVariants.{Always, Never, Countersigned}
use Rattle.mb_model.specs.declared.key.PublicKey.{PublicKey}
use Rattle.mb_model.specs.declared.order.KeyKind.{KeyKind}
use Rattle.mb_model.specs.declared.order.KeyKind.TheVariants as kinds
use Rattle.mb_model.specs.declared.order.OrderKind.{OrderKind}
use Rattle.mb_model.specs.declared.order.Payload.{Payload}
use Rattle.mb_model.specs.owners.Rules.{kind_of, MayBeFor}
use Rattle.mb_model.specs.declared.order.Act.{Act}
use Rattle.mb_model.specs.declared.order.Act.TheVariants as act
use Rattle.mb_model.specs.declared.order.Target.{Target}
use Rattle.mb_model.specs.declared.order.Target.TheVariants as target
use Rattle.mb_model.specs.declared.order.Order.{Order}
use Rattle.mb_model.specs.signatures.Key.{key_bytes}
use Rattle.mb_model.specs.owners.Layers.{is_layer_number}
use Rattle.mb_model.specs.chains.Lines.{spaced_words}
use Rattle.mb_model.specs.declared.layer.Trusts.{Trusts}
use Rattle.mb_model.specs.owners.Layers.{equal_trusts}
use Rattle.mb_model.specs.chains.Drafts.{trust_word, trust_line, trusts_line, SaysTrusts, kind_word, version_line, order_words, SaysTarget, AreLoadLines, AreOwnerLines, SayAct, IsDraft}
use Rattle.mb_model.proofs.KeyLemmas.{key_bytes-same}
use Rattle.mb_model_lemmas.specs.SampleOrder.{surrender}
use Rattle.mb_model_lemmas.proofs.LineLemmas.{cons_same}
use Rattle.mb_model_lemmas.proofs.WordLemmas.{number_front, limited_fits, IsHex-same}

pub numbered_fits : (n : ℕ) → IsTrue (is_layer_number n) → n < 2 ^ 64
numbered_fits n numbered = grind (arith, numbered)

-- two letters of a line, from a place on
abbrev pub letters_at : ℕ → List ℕ → ℕ
letters_at n line = 256 * get_or line n 0 + get_or line (n + 1) 0

-- ---- targets

-- the first letters of the word after "target"
abbrev pub target_letters : Target → ℕ
target_letters (target.Serial serial) = letters_at 7 (codes "target serial")
target_letters (target.Length n) = letters_at 7 (codes "target length")
target_letters (target.Owner layer hash) = letters_at 7 (codes "target owner")
target_letters (target.Code layer hash) = letters_at 7 (codes "target code")

pub says_letters : (line : List ℕ) (t : Target) → SaysTarget line t → letters_at 7 line ≡ target_letters t
says_letters line (target.Serial serial) says = ap (letters_at 7) says.1.2
says_letters line (target.Length n) says = ap (letters_at 7) says.1
says_letters line (target.Owner layer hash) says = ap (letters_at 7) says.2.2
says_letters line (target.Code layer hash) says = ap (letters_at 7) says.2.2

-- a layer and a hash
layered_same : (a b v w : List ℕ) (k l : ℕ) → IsTrue (is_layer_number k) → IsTrue (is_layer_number l) → decimal k ++ 32 ∷ v ≡ decimal l ++ 32 ∷ w
    → (k ≡ l) × (v ≡ w)
layered_same a b v w k l nk nl e = number_front k l v w (numbered_fits k nk) (numbered_fits l nl) e

two_targets : (line : List ℕ) (s t : Target) → (target_letters s ≡ target_letters t → ⊥) → SaysTarget line s → SaysTarget line t → s ≡ t
two_targets line s t apart hs ht = absurd (apart (sym (says_letters line s hs) ∙ says_letters line t ht))

pub SaysTarget-same : (line : List ℕ) (s t : Target) → SaysTarget line s → SaysTarget line t → s ≡ t
SaysTarget-same line (target.Serial a) (target.Serial b) hs ht =
    let word = append_cancel_left (codes "target serial ") hs.1.0 ht.1.0 (sym hs.1.2 ∙ ht.1.2) in
    ap (λ (x : List ℕ). target.Serial x) (IsHex-same hs.1.0 ht.1.0 a b word hs.1.1 ht.1.1)
SaysTarget-same line (target.Length m) (target.Length n) hs ht =
    let number = append_cancel_left (codes "target length ") (decimal m) (decimal n) (sym hs.1 ∙ ht.1) in
    ap (λ (x : ℕ). target.Length x) (decimal_injective m n (limited_fits m hs.0) (limited_fits n ht.0) number)
SaysTarget-same line (target.Owner k a) (target.Owner l b) hs ht =
    let whole = append_cancel_left (codes "target owner ") (decimal k ++ 32 ∷ hs.2.0) (decimal l ++ 32 ∷ ht.2.0) (sym hs.2.2 ∙ ht.2.2) in
    let parts = layered_same a b hs.2.0 ht.2.0 k l hs.0 ht.0 whole in
    let hash = IsHex-same hs.2.0 ht.2.0 a b parts.1 hs.2.1 ht.2.1 in
    let layer = parts.0 in
    cc
SaysTarget-same line (target.Code k a) (target.Code l b) hs ht =
    let whole = append_cancel_left (codes "target code ") (decimal k ++ 32 ∷ hs.2.0) (decimal l ++ 32 ∷ ht.2.0) (sym hs.2.2 ∙ ht.2.2) in
    let parts = layered_same a b hs.2.0 ht.2.0 k l hs.0 ht.0 whole in
    let hash = IsHex-same hs.2.0 ht.2.0 a b parts.1 hs.2.1 ht.2.1 in
    let layer = parts.0 in
    cc
SaysTarget-same line s t hs ht = two_targets line s t (λ e. omega (arith, e)) hs ht

-- ---- the lines after the targets

-- the first two letters of the first line
abbrev pub front_letters : List (List ℕ) → ℕ
front_letters [] = 0
front_letters (line ∷ lines) = letters_at 0 line

abbrev pub target_front : ℕ
target_front = letters_at 0 (codes "target")

pub target_begins : (line : List ℕ) (t : Target) → SaysTarget line t → letters_at 0 line ≡ target_front
target_begins line (target.Serial serial) says = ap (letters_at 0) says.1.2
target_begins line (target.Length n) says = ap (letters_at 0) says.1
target_begins line (target.Owner layer hash) says = ap (letters_at 0) says.2.2
target_begins line (target.Code layer hash) says = ap (letters_at 0) says.2.2

owner_begins : (lines : List (List ℕ)) (owner : PublicKey) (trust : Trusts) → AreOwnerLines lines owner trust → front_letters lines ≡ letters_at 0 (codes "owner")
owner_begins lines owner trust says = ap front_letters says.spelled ∙ ap (letters_at 0) says.owned.2

load_begins : (lines : List (List ℕ)) (payload : Payload) → AreLoadLines lines payload → front_letters lines ≡ letters_at 0 (codes "version")
load_begins lines payload says = ap front_letters says.spelled

-- no line of a target stands after the targets
pub act_begins : (lines : List (List ℕ)) (a : Act) → SayAct lines a → front_letters lines ≡ target_front → ⊥
act_begins lines (act.Establish owner trust) says front = omega (arith, owner_begins lines owner trust says, front)
act_begins lines act.Surrender says front = omega (arith, ap front_letters says, front)
act_begins lines (act.Load payload) says front = omega (arith, load_begins lines payload says, front)
act_begins lines (act.Emergency payload) says front = omega (arith, load_begins lines payload says, front)
act_begins lines (act.NewKey kind) says front = omega (arith, ap front_letters says, front)

-- the targets end at one line
pub targets_same : (s t : List (List ℕ)) (a b : List Target) (xs ys : List (List ℕ)) → AllZip SaysTarget s a → AllZip SaysTarget t b
    → (front_letters xs ≡ target_front → ⊥) → (front_letters ys ≡ target_front → ⊥) → s ++ xs ≡ t ++ ys → (a ≡ b) × (xs ≡ ys)
targets_same [] [] [] [] xs ys ha hb px py e = (refl, e)
targets_same [] [] [] (y ∷ b) xs ys ha hb px py e = absurd hb
targets_same [] [] (x ∷ a) b xs ys ha hb px py e = absurd ha
targets_same [] (line ∷ t) a [] xs ys ha hb px py e = absurd hb
targets_same [] (line ∷ t) a (y ∷ b) xs ys ha hb px py e = absurd (px (ap front_letters e ∙ target_begins line y hb.0))
targets_same (line ∷ s) [] [] b xs ys ha hb px py e = absurd ha
targets_same (line ∷ s) [] (x ∷ a) b xs ys ha hb px py e = absurd (py (ap front_letters (sym e) ∙ target_begins line x ha.0))
targets_same (line ∷ s) (other ∷ t) [] b xs ys ha hb px py e = absurd ha
targets_same (line ∷ s) (other ∷ t) (x ∷ a) [] xs ys ha hb px py e = absurd hb
targets_same (line ∷ s) (other ∷ t) (x ∷ a) (y ∷ b) xs ys ha hb px py e =
    let parts = cons_same line other (s ++ xs) (t ++ ys) e in
    let here = SaysTarget-same other x y (subst (λ (l : List ℕ). SaysTarget l x) parts.0 ha.0) hb.0 in
    let rest = targets_same s t a b xs ys ha.1 hb.1 px py parts.1 in
    let more = rest.0 in
    (cc, rest.1)

-- ---- what is ordered

word_same : (a b : Trust) → trust_word a ≡ trust_word b → a ≡ b
word_same Always Always e = refl
word_same Never Never e = refl
word_same Countersigned Countersigned e = refl
word_same a b e = absurd (omega (arith, ap (λ (x : List ℕ). get_or x 0 0) e))

none_more : {x : ℕ} {xs : List ℕ} → [] ≡ x ∷ xs → ⊥
none_more e = omega (arith, ap length e)

trust_same : (a b : Trust) → trust_line a ≡ trust_line b → a ≡ b
trust_same Always Always e = refl
trust_same Never Never e = refl
trust_same Countersigned Countersigned e = refl
trust_same a b e = absurd (omega (arith, ap (λ (x : List ℕ). get_or x 6 0) e))

two_words : (s t u v : Trust) → trusts_line (record { one = s; two = t }) ≡ trusts_line (record { one = u; two = v }) → (s ≡ u) × (t ≡ v)
two_words Always t Always v e = (refl, word_same t v (append_cancel_left (codes "trust always ") (trust_word t) (trust_word v) e))
two_words Never t Never v e = (refl, word_same t v (append_cancel_left (codes "trust never ") (trust_word t) (trust_word v) e))
two_words Countersigned t Countersigned v e =
    (refl, word_same t v (append_cancel_left (codes "trust countersigned ") (trust_word t) (trust_word v) e))
two_words s t u v e = absurd (omega (arith, ap (λ (x : List ℕ). get_or x 6 0) e))

one_or_two : (s u v : Trust) → trust_line s ≡ trusts_line (record { one = u; two = v }) → ⊥
one_or_two Always Always v e = none_more (append_cancel_left (codes "trust always") [] (32 ∷ trust_word v) e)
one_or_two Never Never v e = none_more (append_cancel_left (codes "trust never") [] (32 ∷ trust_word v) e)
one_or_two Countersigned Countersigned v e = none_more (append_cancel_left (codes "trust countersigned") [] (32 ∷ trust_word v) e)
one_or_two s u v e = omega (arith, ap (λ (x : List ℕ). get_or x 6 0) e)

-- a line says at most one pair of trusts
pub trusts_same : (line : List ℕ) (a b : Trusts) → SaysTrusts line a → SaysTrusts line b → a ≡ b
trusts_same line a b (inl ha) (inl hb) =
    let same = two_words a.one a.two b.one b.two (sym ha ∙ hb) in
    let one = same.0 in
    let two = same.1 in
    λ i. record { one = one i; two = two i }
trusts_same line a b (inl ha) (inr hb) = absurd (one_or_two b.one a.one a.two (sym hb.0 ∙ ha))
trusts_same line a b (inr ha) (inl hb) = absurd (one_or_two a.one b.one b.two (sym ha.0 ∙ hb))
trusts_same line a b (inr ha) (inr hb) = ha.1 ∙ ap equal_trusts (trust_same a.one b.one (sym ha.0 ∙ hb.0)) ∙ sym hb.1

owner_same : (lines : List (List ℕ)) (a b : PublicKey) (s t : Trusts) → AreOwnerLines lines a s → AreOwnerLines lines b t
    → act.Establish a s ≡ act.Establish b t
owner_same lines a b s t ha hb =
    let first = cons_same ha.owner_line hb.owner_line (ha.line_of_trusts ∷ []) (hb.line_of_trusts ∷ []) (sym ha.spelled ∙ hb.spelled) in
    let second = cons_same ha.line_of_trusts hb.line_of_trusts [] [] first.1 in
    let word = append_cancel_left (codes "owner ") ha.owned.0 hb.owned.0 (sym ha.owned.2 ∙ first.0 ∙ hb.owned.2) in
    let owner = key_bytes-same a b ha.sized hb.sized (IsHex-same ha.owned.0 hb.owned.0 (key_bytes a) (key_bytes b) word ha.owned.1 hb.owned.1) in
    let trust = trusts_same hb.line_of_trusts s t (subst (λ (l : List ℕ). SaysTrusts l s) second.0 ha.trusted) hb.trusted in
    cc

load_same : (lines : List (List ℕ)) (a b : Payload) → AreLoadLines lines a → AreLoadLines lines b → a ≡ b
load_same lines a b ha hb =
    let first = cons_same (version_line a.version) (version_line b.version)
    (ha.line_of_trusts ∷ ha.code_line ∷ []) (hb.line_of_trusts ∷ hb.code_line ∷ []) (sym ha.spelled ∙ hb.spelled) in
    let second = cons_same ha.line_of_trusts hb.line_of_trusts (ha.code_line ∷ []) (hb.code_line ∷ []) first.1 in
    let third = cons_same ha.code_line hb.code_line [] [] second.1 in
    let number = append_cancel_left (codes "version ") (decimal a.version) (decimal b.version) first.0 in
    let word = append_cancel_left (codes "code ") ha.coded.0 hb.coded.0 (sym ha.coded.2 ∙ third.0 ∙ hb.coded.2) in
    let version = decimal_injective a.version b.version (limited_fits a.version ha.version_fits) (limited_fits b.version hb.version_fits) number in
    let trust = trusts_same hb.line_of_trusts a.trust b.trust (subst (λ (l : List ℕ). SaysTrusts l a.trust) second.0 ha.trusted) hb.trusted in
    let code = IsHex-same ha.coded.0 hb.coded.0 a.code b.code word ha.coded.1 hb.coded.1 in
    λ i. record { version = version i; trust = trust i; code = code i }

-- the first line of an order, and two letters that tell what is ordered
abbrev pub head : Act → ℕ → List ℕ
head a layer = spaced_words (order_words a layer)

abbrev pub act_letters : Act → ℕ
act_letters (act.Establish owner trust) = letters_at 6 (codes "order establish")
act_letters act.Surrender = letters_at 6 (codes "order surrender")
act_letters (act.Load payload) = letters_at 6 (codes "order load")
act_letters (act.Emergency payload) = letters_at 6 (codes "order emergency")
act_letters (act.NewKey kind) = letters_at 6 (codes "order newkey")

pub head_letters : (a : Act) (k : ℕ) → letters_at 6 (head a k) ≡ act_letters a
head_letters (act.Establish owner trust) k = refl
head_letters act.Surrender k = refl
head_letters (act.Load payload) k = refl
head_letters (act.Emergency payload) k = refl
head_letters (act.NewKey kind) k = refl

pub kind_word-same : (a b : KeyKind) → kind_word a ≡ kind_word b → a ≡ b
kind_word-same kinds.Epoch kinds.Epoch e = refl
kind_word-same kinds.Configuration kinds.Configuration e = refl
kind_word-same a b e = absurd (omega (arith, ap (λ (x : List ℕ). get_or x 0 0) e))

may_fits : (kind : OrderKind) (k : ℕ) → MayBeFor kind k → k < 2 ^ 64
may_fits kind k may = omega (arith, may.1)

two_acts : (a b : Act) (k l : ℕ) → (act_letters a ≡ act_letters b → ⊥) → head a k ≡ head b l → (a ≡ b) × (k ≡ l)
two_acts a b k l apart e = absurd (apart (sym (head_letters a k) ∙ ap (letters_at 6) e ∙ head_letters b l))

act_same : (lines : List (List ℕ)) (a b : Act) (k l : ℕ) → k < 2 ^ 64 → l < 2 ^ 64 → head a k ≡ head b l → SayAct lines a → SayAct lines b
    → (a ≡ b) × (k ≡ l)
act_same lines (act.Establish a s) (act.Establish b t) k l fk fl e ha hb =
    (owner_same lines a b s t ha hb, decimal_injective k l fk fl (append_cancel_left (codes "order establish ") (decimal k) (decimal l) e))
act_same lines act.Surrender act.Surrender k l fk fl e ha hb =
    (refl, decimal_injective k l fk fl (append_cancel_left (codes "order surrender ") (decimal k) (decimal l) e))
act_same lines (act.Load a) (act.Load b) k l fk fl e ha hb =
    (ap act.Load (load_same lines a b ha hb), decimal_injective k l fk fl (append_cancel_left (codes "order load ") (decimal k) (decimal l) e))
act_same lines (act.Emergency a) (act.Emergency b) k l fk fl e ha hb = (
  ap act.Emergency (load_same lines a b ha hb),
  decimal_injective k l fk fl (append_cancel_left (codes "order emergency ") (decimal k) (decimal l) e),
)
act_same lines (act.NewKey i) (act.NewKey j) k l fk fl e ha hb =
    let whole = append_cancel_left (codes "order newkey ") (decimal k ++ 32 ∷ kind_word i) (decimal l ++ 32 ∷ kind_word j) e in
    let parts = number_front k l (kind_word i) (kind_word j) fk fl whole in
    (ap (λ (x : KeyKind). act.NewKey x) (kind_word-same i j parts.1), parts.0)
act_same lines a b k l fk fl e ha hb = two_acts a b k l (λ same. omega (arith, same)) e

-- a draft's lines stand for at most one order
pub IsDraft-same : (lines : List (List ℕ)) (a b : Order) → IsDraft lines a → IsDraft lines b → a ≡ b
IsDraft-same lines a b ha hb =
    let first = cons_same (head a.act a.layer) (head b.act b.layer) (ha.target_lines ++ ha.act_lines) (hb.target_lines ++ hb.act_lines) (sym ha.spelled ∙ hb.spelled) in
    let split = targets_same ha.target_lines hb.target_lines a.targets b.targets ha.act_lines hb.act_lines ha.targeted hb.targeted
    (act_begins ha.act_lines a.act ha.says_act) (act_begins hb.act_lines b.act hb.says_act) first.1 in
    let said = subst (λ (x : List (List ℕ)). SayAct x a.act) split.1 ha.says_act in
    let acts = act_same hb.act_lines a.act b.act a.layer b.layer (may_fits (kind_of a.act) a.layer ha.named) (may_fits (kind_of b.act) b.layer hb.named) first.0 said hb.says_act in
    let targets = split.0 in
    let what = acts.0 in
    let layer = acts.1 in
    let signature = ha.unsigned ∙ sym hb.unsigned in
    let others = ha.alone ∙ sym hb.alone in
    λ i. record { layer = layer i; targets = targets i; act = what i; signature = signature i; countersignatures = others i }

-- the draft of a surrender
pub surrender_draft : IsDraft (codes "order surrender 2" ∷ codes "target length 7" ∷ []) surrender
unfolding digits
surrender_draft = record {
  target_lines = codes "target length 7" ∷ [];
  act_lines = [];
  spelled = refl;
  named = (lit≤ tt, lit≤ tt);
  targeted = ((lit≤ tt, refl), tt);
  few = lit≤ tt;
  says_act = refl;
  unsigned = refl;
  alone = refl;
}
