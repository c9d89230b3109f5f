-- The first line of a draft, word by word, and what it leaves to be said.
use Rattle.std.proofs.Common.{◌≡◌, ◌≤◌, ◌<◌, ◌^◌, ℕ, List, [], ◌∷◌, ◌++◌, refl, sym, ap, subst, ◌∙◌, arith}
use Rattle.std.proofs.lemmas.Fmt.{decimal_injective}
use Rattle.std.specs.Prelude.{codes, IsTrue}
use Rattle.std.specs.List.{AllZip}
use Rattle.std.specs.Fmt.{decimal}
use Rattle.std.proofs.lemmas.List.{append_cancel_left}
use Rattle.mb_model.specs.declared.order.KeyKind.{KeyKind}
use Rattle.mb_model.specs.declared.order.OrderKind.{OrderKind}
use Rattle.mb_model.specs.declared.order.OrderKind.TheVariants as orders
use Rattle.mb_model.specs.declared.order.Act.{Act}
use Rattle.mb_model.specs.declared.order.Act.TheVariants as act
use Rattle.mb_model.specs.declared.order.Target.{Target}
use Rattle.mb_model.specs.declared.order.Order.{Order}
use Rattle.mb_model.specs.owners.Layers.{is_layer_number}
use Rattle.mb_model.specs.owners.Rules.{kind_of, MayBeFor}
use Rattle.mb_model.specs.chains.Lines.{spaced_words}
use Rattle.mb_model.specs.chains.Drafts.{kind_word, SaysTarget, order_words, IsDraft}
use Rattle.mb_model_lemmas.proofs.LineLemmas.{cons_same}
use Rattle.mb_model_lemmas.proofs.DraftLemmas.{letters_at, kind_word-same}
use Rattle.mb_officer.specs.declared.draft.Loading.TheVariants as loading
use Rattle.mb_officer.specs.declared.draft.Kind.{Kind}
use Rattle.mb_officer.specs.declared.draft.Kind.TheVariants as kind
use Rattle.mb_officer.specs.Drafting.{ordered_by, heading_line, order_kind, IsHeading, SaysTargets}
use Rattle.mb_officer.proofs.Wording.{layered_same}

establish_parts : (line word : List ℕ) (k : Kind) (n : ℕ) → line ≡ codes "order establish " ++ word → IsHeading line k n → (kind.Establish ≡ k) × MayBeFor orders.Surrender n × (word ≡ decimal n)
establish_parts line word kind.Establish n e is = (refl, is.0, append_cancel_left (codes "order establish ") word (decimal n) (sym e ∙ is.1))
establish_parts line word kind.Surrender n e is = absurd (omega (arith, ap (letters_at 6) e, ap (letters_at 6) is.1))
establish_parts line word (kind.Load loading.Ordinary) n e is = absurd (omega (arith, ap (letters_at 6) e, ap (letters_at 6) is.1))
establish_parts line word (kind.Load loading.Emergency) n e is = absurd (omega (arith, ap (letters_at 6) e, ap (letters_at 6) is.1))
establish_parts line word (kind.NewKey key) n e is = absurd (omega (arith, ap (letters_at 6) e, ap (letters_at 6) is.1))

surrender_parts : (line word : List ℕ) (k : Kind) (n : ℕ) → line ≡ codes "order surrender " ++ word → IsHeading line k n → (kind.Surrender ≡ k) × MayBeFor orders.Surrender n × (word ≡ decimal n)
surrender_parts line word kind.Establish n e is = absurd (omega (arith, ap (letters_at 6) e, ap (letters_at 6) is.1))
surrender_parts line word kind.Surrender n e is = (refl, is.0, append_cancel_left (codes "order surrender ") word (decimal n) (sym e ∙ is.1))
surrender_parts line word (kind.Load loading.Ordinary) n e is = absurd (omega (arith, ap (letters_at 6) e, ap (letters_at 6) is.1))
surrender_parts line word (kind.Load loading.Emergency) n e is = absurd (omega (arith, ap (letters_at 6) e, ap (letters_at 6) is.1))
surrender_parts line word (kind.NewKey key) n e is = absurd (omega (arith, ap (letters_at 6) e, ap (letters_at 6) is.1))

load_parts : (line word : List ℕ) (k : Kind) (n : ℕ) → line ≡ codes "order load " ++ word → IsHeading line k n → ((kind.Load loading.Ordinary) ≡ k) × MayBeFor orders.Load n × (word ≡ decimal n)
load_parts line word kind.Establish n e is = absurd (omega (arith, ap (letters_at 6) e, ap (letters_at 6) is.1))
load_parts line word kind.Surrender n e is = absurd (omega (arith, ap (letters_at 6) e, ap (letters_at 6) is.1))
load_parts line word (kind.Load loading.Ordinary) n e is = (refl, is.0, append_cancel_left (codes "order load ") word (decimal n) (sym e ∙ is.1))
load_parts line word (kind.Load loading.Emergency) n e is = absurd (omega (arith, ap (letters_at 6) e, ap (letters_at 6) is.1))
load_parts line word (kind.NewKey key) n e is = absurd (omega (arith, ap (letters_at 6) e, ap (letters_at 6) is.1))

emergency_parts : (line word : List ℕ) (k : Kind) (n : ℕ) → line ≡ codes "order emergency " ++ word → IsHeading line k n → ((kind.Load loading.Emergency) ≡ k) × MayBeFor orders.Surrender n × (word ≡ decimal n)
emergency_parts line word kind.Establish n e is = absurd (omega (arith, ap (letters_at 6) e, ap (letters_at 6) is.1))
emergency_parts line word kind.Surrender n e is = absurd (omega (arith, ap (letters_at 6) e, ap (letters_at 6) is.1))
emergency_parts line word (kind.Load loading.Ordinary) n e is = absurd (omega (arith, ap (letters_at 6) e, ap (letters_at 6) is.1))
emergency_parts line word (kind.Load loading.Emergency) n e is = (refl, is.0, append_cancel_left (codes "order emergency ") word (decimal n) (sym e ∙ is.1))
emergency_parts line word (kind.NewKey key) n e is = absurd (omega (arith, ap (letters_at 6) e, ap (letters_at 6) is.1))

numbered : (n : ℕ) → 1 ≤ n → n ≤ 3 → IsTrue (is_layer_number n)
numbered n least most = grind (arith, least, most)

upper_numbered : (n : ℕ) → MayBeFor orders.NewKey n → IsTrue (is_layer_number n)
upper_numbered n may = numbered n (omega (arith, may.0)) may.1

may_fit : (n : ℕ) → n ≤ 3 → n < 2 ^ 64
may_fit n most = omega (arith, most)

-- the kind of a new key
pub record IsNewKey (words : List ℕ) (k : Kind) (n : ℕ) : Type 0 where
  pub key : KeyKind
  pub is_kind : kind.NewKey key ≡ k
  pub upper : MayBeFor orders.NewKey n
  pub whole : words ≡ decimal n ++ 32 ∷ kind_word key

pub key_parts : (words : List ℕ) (k : Kind) (n : ℕ) → IsHeading (codes "order newkey " ++ words) k n → IsNewKey words k n
key_parts words (kind.NewKey key) n is = record {
  key = key;
  is_kind = refl;
  upper = is.0;
  whole = append_cancel_left (codes "order newkey ") words (decimal n ++ 32 ∷ kind_word key) is.1;
}
key_parts words kind.Establish n is = absurd (omega (arith, ap (letters_at 6) is.1))
key_parts words kind.Surrender n is = absurd (omega (arith, ap (letters_at 6) is.1))
key_parts words (kind.Load loading.Ordinary) n is = absurd (omega (arith, ap (letters_at 6) is.1))
key_parts words (kind.Load loading.Emergency) n is = absurd (omega (arith, ap (letters_at 6) is.1))

-- layer 1 has no keys
pub key_first : (words word : List ℕ) (layer : ℕ) (k : Kind) (n : ℕ) → IsTrue (is_layer_number layer) → words ≡ decimal layer ++ 32 ∷ word → layer ≡ 1
    → IsHeading (codes "order newkey " ++ words) k n → ⊥
key_first words word layer k n numbered e one is =
    let parts = key_parts words k n is in
    let same = layered_same words word (kind_word parts.key) layer n numbered (upper_numbered n parts.upper) e parts.whole in
    grind (arith, same.0, one, parts.upper)

pub key_kind : (words word : List ℕ) (layer : ℕ) (k : Kind) (n : ℕ) → IsTrue (is_layer_number layer) → words ≡ decimal layer ++ 32 ∷ word
    → ((key : KeyKind) → word ≡ kind_word key → ⊥) → IsHeading (codes "order newkey " ++ words) k n → ⊥
key_kind words word layer k n numbered e none is =
    let parts = key_parts words k n is in
    let same = layered_same words word (kind_word parts.key) layer n numbered (upper_numbered n parts.upper) e parts.whole in
    none parts.key same.1

-- ---- a first line is one heading

new_key_same : (line : List ℕ) (key : KeyKind) (k : Kind) (m n : ℕ) → IsHeading line (kind.NewKey key) m → IsNewKey (decimal m ++ 32 ∷ kind_word key) k n
    → (kind.NewKey key ≡ k) × (m ≡ n)
new_key_same line key k m n hj parts =
    let same = layered_same (decimal m ++ 32 ∷ kind_word key) (kind_word key) (kind_word parts.key) m n (upper_numbered m hj.0) (upper_numbered n parts.upper) refl parts.whole in
    let key_same = kind_word-same key parts.key same.1 in
    (ap (λ (x : KeyKind). kind.NewKey x) key_same ∙ parts.is_kind, same.0)

pub heading_same : (line : List ℕ) (j k : Kind) (m n : ℕ) → IsHeading line j m → IsHeading line k n → (j ≡ k) × (m ≡ n)
heading_same line kind.Establish k m n hj hk =
    let parts = establish_parts line (decimal m) k n hj.1 hk in
    (parts.0, decimal_injective m n (may_fit m hj.0.1) (may_fit n parts.1.1) parts.2)
heading_same line kind.Surrender k m n hj hk =
    let parts = surrender_parts line (decimal m) k n hj.1 hk in
    (parts.0, decimal_injective m n (may_fit m hj.0.1) (may_fit n parts.1.1) parts.2)
heading_same line (kind.Load loading.Ordinary) k m n hj hk =
    let parts = load_parts line (decimal m) k n hj.1 hk in
    (parts.0, decimal_injective m n (may_fit m hj.0.1) (may_fit n parts.1.1) parts.2)
heading_same line (kind.Load loading.Emergency) k m n hj hk =
    let parts = emergency_parts line (decimal m) k n hj.1 hk in
    (parts.0, decimal_injective m n (may_fit m hj.0.1) (may_fit n parts.1.1) parts.2)
heading_same line (kind.NewKey key) k m n hj hk =
    new_key_same line key k m n hj (key_parts (decimal m ++ 32 ∷ kind_word key) k n (subst (λ (x : List ℕ). IsHeading x k n) hj.1 hk))

-- ---- a first line and the lines after it

-- the words of a first line are its heading
words_are : (a : Act) (layer : ℕ) → spaced_words (order_words a layer) ≡ heading_line (ordered_by a) layer
words_are (act.Establish owner trust) layer = refl
words_are act.Surrender layer = refl
words_are (act.Load payload) layer = refl
words_are (act.Emergency payload) layer = refl
words_are (act.NewKey k) layer = refl

kind_is : (a : Act) → kind_of a ≡ order_kind (ordered_by a)
kind_is (act.Establish owner trust) = refl
kind_is act.Surrender = refl
kind_is (act.Load payload) = refl
kind_is (act.Emergency payload) = refl
kind_is (act.NewKey k) = refl

-- an order is what a draft's first line and the rest say
pub from_targets : (k : Kind) (layer : ℕ) (line : List ℕ) (more : List (List ℕ)) (order : Order) → IsHeading line k layer
    → SaysTargets k layer [] more order → IsDraft (line ∷ more) order
from_targets k layer line more order is says = record {
  target_lines = says.target_lines;
  act_lines = says.act_lines;
  spelled =
      let heading = is.1 ∙ ap (λ (x : Kind). heading_line x layer) (sym says.of_kind) ∙ ap (heading_line (ordered_by order.act)) (sym says.of_layer)
      ∙ sym (words_are order.act order.layer) in
      let rest = says.spelled in
      cc;
  named =
      subst (λ (x : OrderKind). MayBeFor x order.layer) (sym (kind_is order.act ∙ ap order_kind says.of_kind))
      (subst (λ (n : ℕ). MayBeFor (order_kind k) n) (sym says.of_layer) is.0);
  targeted = subst (λ (x : List Target). AllZip SaysTarget says.target_lines x) (sym says.all) says.targeted;
  few = says.few;
  says_act = says.says_act;
  unsigned = says.unsigned;
  alone = says.alone;
}

-- the first line of a draft is a heading
pub first_is : (line : List ℕ) (more : List (List ℕ)) (order : Order) → IsDraft (line ∷ more) order → IsHeading line (ordered_by order.act) order.layer
first_is line more order is =
    let parts = cons_same line (spaced_words (order_words order.act order.layer)) more (is.target_lines ++ is.act_lines) is.spelled in
    (subst (λ (x : OrderKind). MayBeFor x order.layer) (kind_is order.act) is.named, parts.0 ∙ words_are order.act order.layer)

pub to_targets : (line : List ℕ) (more : List (List ℕ)) (order : Order) → IsDraft (line ∷ more) order
    → SaysTargets (ordered_by order.act) order.layer [] more order
to_targets line more order is =
    let parts = cons_same line (spaced_words (order_words order.act order.layer)) more (is.target_lines ++ is.act_lines) is.spelled in
    record {
      target_lines = is.target_lines;
      act_lines = is.act_lines;
      more = order.targets;
      spelled = parts.1;
      targeted = is.targeted;
      all = refl;
      few = is.few;
      says_act = is.says_act;
      of_kind = refl;
      of_layer = refl;
      unsigned = is.unsigned;
      alone = is.alone;
    }
