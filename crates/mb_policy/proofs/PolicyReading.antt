-- How far a policy has been read.
use Rattle.std.proofs.Common.{◌≡◌, ℕ, ◌+◌, ◌<◌, ◌≤◌, suc, List, [], ◌∷◌, ◌++◌, length, length-append, refl, sym, ap, subst, ◌∙◌, arith, append_assoc, true, false, codes}
use Rattle.std.specs.Prelude.{filter, not, Bool}
use Rattle.std.specs.List.{AllZip}
use Rattle.std.proofs.lemmas.List.{append-nil}
use Rattle.std.proofs.lemmas.List.Elements.{filter-append}
use Rattle.mb_model.specs.chains.Lines.{HasLines, IsBeginning, FailsAtLine, ReadsLines, TextFailsAtLine}
use Rattle.mb_model.specs.chains.Script.{is_skipped}
use Rattle.mb_model_lemmas.proofs.LineLemmas.{HasLines-nil, HasLines-always, IsBeginning-all, bad_after, cons_same}
use Rattle.mb_model_lemmas.proofs.WordLemmas.{IsHex-same}
use Rattle.mb_words.specs.Words.{SplitsLine}
use Rattle.mb_words.proofs.NextLines.{shorter, with_line}
use Rattle.mb_policy.specs.declared.policy.Line.{Line}
use Rattle.mb_policy.specs.Policies.{HashSet, Test, PolicyRule, PolicyItem, set_item, rule_item, line_words, verb_word, test_words, IsHashWord, SaysSet, SaysRule, SaysItem, SayItems, IsPolicy}
use Rattle.mb_policy.specs.Meanings.{line_meant, items_after, items_of}
use Rattle.mb_policy.proofs.Exact.{SaysTest-same}

-- ---- a line says one item

hashes_same : (words a b : List (List ℕ)) → AllZip IsHashWord words a → AllZip IsHashWord words b → a ≡ b
hashes_same [] [] [] one other = refl
hashes_same [] [] (y ∷ b) one other = absurd other
hashes_same [] (x ∷ a) b one other = absurd one
hashes_same (word ∷ words) [] b one other = absurd one
hashes_same (word ∷ words) (x ∷ a) [] one other = absurd other
hashes_same (word ∷ words) (x ∷ a) (y ∷ b) one other =
    let first = IsHex-same word word x y refl one.0.1 other.0.1 in
    let rest = hashes_same words a b one.1 other.1 in
    cc

set_same : (items : List PolicyItem) (words : List (List ℕ)) (a b : HashSet) → SaysSet items words a → SaysSet items words b → a ≡ b
set_same items words a b one other =
    let parts = cons_same a.name b.name one.hash_words other.hash_words (cons_same (codes "set") (codes "set") _ _ (sym one.spelled ∙ other.spelled)).1 in
    same_set a b parts.0 (hashes_same other.hash_words a.hashes b.hashes (subst (λ (ws : List (List ℕ)). AllZip IsHashWord ws a.hashes) parts.1 one.said) other.said)
  where
    same_set : (a b : HashSet) → a.name ≡ b.name → a.hashes ≡ b.hashes → a ≡ b
    same_set a b e f = ap (λ (n : List ℕ). record { name = n; hashes = a.hashes }) e ∙ ap (λ (h : List (List ℕ)). record { name = b.name; hashes = h }) f

rule_same : (items : List PolicyItem) (words : List (List ℕ)) (a b : PolicyRule) → SaysRule items words a → SaysRule items words b → a ≡ b
rule_same items words a b one other =
    let verbs = cons_same (verb_word a.allows) (verb_word b.allows) _ _ (sym one.spelled ∙ other.spelled) in
    let parts = cons_same a.name b.name (test_words a.test) (test_words b.test) verbs.1 in
    same_rule a b parts.0 (same_verb a.allows b.allows verbs.0)
    (SaysTest-same items (test_words b.test) a.test b.test (record { spelled = sym parts.1; follows = one.follows; shallow = one.shallow }) (record { spelled = refl; follows = other.follows; shallow = other.shallow }))
  where
    same_rule : (a b : PolicyRule) → a.name ≡ b.name → a.allows ≡ b.allows → a.test ≡ b.test → a ≡ b
    same_rule a b e f g =
        ap (λ (n : List ℕ). record { name = n; allows = a.allows; test = a.test }) e ∙ ap (λ (v : Bool). record { name = b.name; allows = v; test = a.test }) f
        ∙ ap (λ (t : Test). record { name = b.name; allows = b.allows; test = t }) g

    same_verb : (a b : Bool) → verb_word a ≡ verb_word b → a ≡ b
    same_verb true true e = refl
    same_verb false false e = refl
    same_verb true false e = absurd (omega (arith, ap length e))
    same_verb false true e = absurd (omega (arith, ap length e))

pub verbs_differ : (rest more : List (List ℕ)) (allows : Bool) → codes "set" ∷ rest ≡ verb_word allows ∷ more → ⊥
verbs_differ rest more true e = omega (arith, ap length (cons_same _ _ rest more e).0)
verbs_differ rest more false e = omega (arith, ap length (cons_same _ _ rest more e).0)

pub SaysItem-same : (items : List PolicyItem) (line : List ℕ) (a b : PolicyItem) → SaysItem items line a → SaysItem items line b → a ≡ b
SaysItem-same items line (set_item a) (set_item b) one other = ap set_item (set_same items (line_words line) a b one other)
SaysItem-same items line (set_item a) (rule_item b) one other = absurd (verbs_differ _ _ b.allows (sym one.spelled ∙ other.spelled))
SaysItem-same items line (rule_item a) (set_item b) one other = absurd (verbs_differ _ _ a.allows (sym other.spelled ∙ one.spelled))
SaysItem-same items line (rule_item a) (rule_item b) one other = ap rule_item (rule_same items (line_words line) a b one other)

-- ---- lines say items

pub say_push : (before : List PolicyItem) (lines : List (List ℕ)) (items : List PolicyItem) (line : List ℕ) (item : PolicyItem) → SayItems before lines items → SaysItem (before ++ items) line item
    → SayItems before (lines ++ line ∷ []) (items ++ item ∷ [])
say_push before [] [] line item say says = (subst (λ (x : List PolicyItem). SaysItem x line item) (append-nil before) says, refl)
say_push before [] (x ∷ items) line item say says = absurd cc
say_push before (y ∷ lines) [] line item say says = absurd say
say_push before (y ∷ lines) (x ∷ items) line item say says =
    (say.0, say_push (before ++ x ∷ []) lines items line item say.1 (subst (λ (z : List PolicyItem). SaysItem z line item) (sym (append_assoc before (x ∷ []) items)) says))

pub say_count : (before : List PolicyItem) (lines : List (List ℕ)) (items : List PolicyItem) → SayItems before lines items → length lines ≡ length items
say_count before [] items say = sym (ap length say)
say_count before (y ∷ lines) [] say = absurd say
say_count before (y ∷ lines) (x ∷ items) say = ap (λ (n : ℕ). suc n) (say_count (before ++ x ∷ []) lines items say.1)

-- lines with another after them, that say items: the other says one after those that the lines say
pub say_middle : (before : List PolicyItem) (lines later : List (List ℕ)) (line : List ℕ) (items all : List PolicyItem) → SayItems before lines items → SayItems before (lines ++ line ∷ later) all
    → (item : PolicyItem) × SaysItem (before ++ items) line item
say_middle before [] later line items [] say whole = absurd whole
say_middle before [] later line items (x ∷ all) say whole =
    (x, subst (λ (z : List PolicyItem). SaysItem z line x) (sym (ap (λ (z : List PolicyItem). before ++ z) say ∙ append-nil before)) whole.0)
say_middle before (y ∷ lines) later line [] all say whole = absurd say
say_middle before (y ∷ lines) later line (x ∷ items) [] say whole = absurd whole
say_middle before (y ∷ lines) later line (x ∷ items) (z ∷ all) say whole =
    let same = SaysItem-same before y z x whole.0 say.0 in
    let rest = say_middle (before ++ x ∷ []) lines later line items all say.1 (subst (λ (i : PolicyItem). SayItems (before ++ i ∷ []) (lines ++ line ∷ later) all) same whole.1) in
    (rest.0, subst (λ (b : List PolicyItem). SaysItem b line rest.0) (append_assoc before (x ∷ []) items) rest.1)

-- ---- items of lines

pub items_push : (before : List PolicyItem) (lines : List Line) (line : Line) → items_after before (lines ++ line ∷ []) ≡ items_after before lines ++ line_meant (before ++ items_after before lines) line ∷ []
items_push before [] line = ap (λ (b : List PolicyItem). line_meant b line ∷ []) (sym (append-nil before))
items_push before (x ∷ lines) line =
    ap (λ (z : List PolicyItem). line_meant before x ∷ z)
    (items_push (before ++ line_meant before x ∷ []) lines line
    ∙ ap (λ (b : List PolicyItem). items_after (before ++ line_meant before x ∷ []) lines ++ line_meant b line ∷ [])
    (append_assoc before (line_meant before x ∷ []) (items_after (before ++ line_meant before x ∷ []) lines)))

pub items_count : (before : List PolicyItem) (lines : List Line) → length (items_after before lines) ≡ length lines
items_count before [] = refl
items_count before (x ∷ lines) = ap (λ (n : ℕ). suc n) (items_count (before ++ line_meant before x ∷ []) lines)

-- ---- a text

abbrev pub kept : List ℕ → Bool
kept line = not (is_skipped line)

-- Some lines have been read, and say these items; whatever lines the rest has, the text has those and these.
pub record IsReadTo (text rest : List ℕ) (items : List PolicyItem) (number : ℕ) : Type 0 where
  pub before : List (List ℕ)
  pub stands : IsPolicy before items
  pub forward : (more : List (List ℕ)) → HasLines rest more → HasLines text (before ++ more)
  pub count : number ≡ length before
  pub less : number + length rest ≤ length text

pub all_read : (text rest : List ℕ) (items : List PolicyItem) (number : ℕ) → IsReadTo text rest items number → rest ≡ [] → ReadsLines IsPolicy text items
all_read text rest items number is none = record {
  lines = is.before ++ [];
  has = is.forward [] (subst (λ (x : List ℕ). HasLines x []) (sym none) HasLines-nil);
  stands = subst (λ (x : List (List ℕ)). IsPolicy x items) (sym (append-nil is.before)) is.stands;
}

one_more : (text rest line remaining : List ℕ) (items more_items : List PolicyItem) (number : ℕ) (is : IsReadTo text rest items number) → SplitsLine rest line remaining → 0 < length rest
    → IsPolicy (is.before ++ line ∷ []) more_items → IsReadTo text remaining more_items (number + 1)
one_more text rest line remaining items more_items number is splits some stands = record {
  before = is.before ++ line ∷ [];
  stands = stands;
  forward = λ more has.
      subst (λ (x : List (List ℕ)). HasLines text x) (sym (append_assoc is.before (line ∷ []) more)) (is.forward (line ∷ more) (with_line rest line remaining more splits some has));
  count = omega (arith, is.count, length-append is.before (line ∷ []));
  less = omega (arith, is.less, shorter rest line remaining splits some);
}

one_left : (line : List ℕ) → is_skipped line ≡ true → filter kept (line ∷ []) ≡ []
one_left line skipped = rw skipped refl

one_kept : (line : List ℕ) → is_skipped line ≡ false → filter kept (line ∷ []) ≡ line ∷ []
one_kept line said = rw said refl

kept_push : (lines : List (List ℕ)) (line : List ℕ) → is_skipped line ≡ false → filter kept (lines ++ line ∷ []) ≡ filter kept lines ++ line ∷ []
kept_push lines line said = filter-append kept lines (line ∷ []) ∙ ap (λ (x : List (List ℕ)). filter kept lines ++ x) (one_kept line said)

pub skip_line : (text rest line remaining : List ℕ) (items : List PolicyItem) (number : ℕ) → IsReadTo text rest items number → SplitsLine rest line remaining → 0 < length rest
    → is_skipped line ≡ true → IsReadTo text remaining items (number + 1)
skip_line text rest line remaining items number is splits some skipped =
    let same = filter-append kept is.before (line ∷ []) ∙ ap (λ (x : List (List ℕ)). filter kept is.before ++ x) (one_left line skipped) ∙ append-nil (filter kept is.before) in
    one_more text rest line remaining items items number is splits some
    (record { said = subst (λ (x : List (List ℕ)). SayItems [] x items) (sym same) is.stands.said; few = is.stands.few })

say_item : (text rest line remaining : List ℕ) (items : List PolicyItem) (item : PolicyItem) (number : ℕ) → IsReadTo text rest items number → SplitsLine rest line remaining → 0 < length rest
    → is_skipped line ≡ false → (length items ≡ 256 → ⊥) → SaysItem items line item → IsReadTo text remaining (items ++ item ∷ []) (number + 1)
say_item text rest line remaining items item number is splits some said room says =
    one_more text rest line remaining items (items ++ item ∷ []) number is splits some
    (record {
      said = subst (λ (x : List (List ℕ)). SayItems [] x (items ++ item ∷ [])) (sym (kept_push is.before line said)) (say_push [] (filter kept is.before) items line item is.stands.said says);
      few = omega (arith, is.stands.few, room, length-append items (item ∷ []));
    })

pub say_line : (text rest line remaining : List ℕ) (lines more : List Line) (read : Line) (number : ℕ) → IsReadTo text rest (items_of lines) number → SplitsLine rest line remaining → 0 < length rest
    → is_skipped line ≡ false → (length lines ≡ 256 → ⊥) → SaysItem (items_of lines) line (line_meant (items_of lines) read) → more ≡ lines ++ read ∷ []
    → IsReadTo text remaining (items_of more) (number + 1)
say_line text rest line remaining lines more read number is splits some said room says pushed =
    subst (λ (x : List PolicyItem). IsReadTo text remaining x (number + 1)) (sym (ap items_of pushed ∙ items_push [] lines read))
    (say_item text rest line remaining (items_of lines) (line_meant (items_of lines) read) number is splits some said (λ full. room (sym (items_count [] lines) ∙ full)) says)

-- ---- the first line that is wrong

fails_here : (text rest line remaining : List ℕ) (items : List PolicyItem) (number : ℕ) (is : IsReadTo text rest items number) → SplitsLine rest line remaining → 0 < length rest
    → (IsBeginning IsPolicy (is.before ++ line ∷ []) → ⊥) → TextFailsAtLine IsPolicy text (number + 1)
fails_here text rest line remaining items number is splits some bad =
    let later = HasLines-always remaining in
    record {
      lines = is.before ++ line ∷ later.0;
      has = is.forward (line ∷ later.0) (with_line rest line remaining later.0 splits some later.1);
      fails =
          subst (λ (n : ℕ). FailsAtLine IsPolicy (is.before ++ line ∷ later.0) (n + 1)) (sym is.count)
          (bad_after IsPolicy is.before line later.0 (IsBeginning-all IsPolicy is.before items is.stands) bad);
    }

-- what the lines of a policy say that begins with these and one more that is not skipped
begun : (before : List (List ℕ)) (line : List ℕ) (begins : IsBeginning IsPolicy (before ++ line ∷ [])) → is_skipped line ≡ false
    → SayItems [] (filter kept before ++ line ∷ filter kept begins.more) begins.value
begun before line begins said =
    let whole = filter-append kept (before ++ line ∷ []) begins.more ∙ ap (λ (x : List (List ℕ)). x ++ filter kept begins.more) (kept_push before line said)
    ∙ append_assoc (filter kept before) (line ∷ []) (filter kept begins.more) in
    subst (λ (x : List (List ℕ)). SayItems [] x begins.value) whole begins.stands.said

pub full_line : (text rest line remaining : List ℕ) (lines : List Line) (number : ℕ) → IsReadTo text rest (items_of lines) number → SplitsLine rest line remaining → 0 < length rest
    → is_skipped line ≡ false → length lines ≡ 256 → TextFailsAtLine IsPolicy text (number + 1)
full_line text rest line remaining lines number is splits some said full =
    fails_here text rest line remaining (items_of lines) number is splits some
    (λ begins.
    let all = say_count [] (filter kept is.before ++ line ∷ filter kept begins.more) begins.value (begun is.before line begins said) in
    let these = say_count [] (filter kept is.before) (items_of lines) is.stands.said in
    omega (arith, all, these, items_count [] lines, full, begins.stands.few, length-append (filter kept is.before) (line ∷ filter kept begins.more)))

pub wrong_line : (text rest line remaining : List ℕ) (items : List PolicyItem) (number : ℕ) → IsReadTo text rest items number → SplitsLine rest line remaining → 0 < length rest
    → is_skipped line ≡ false → ((item : PolicyItem) → SaysItem items line item → ⊥) → TextFailsAtLine IsPolicy text (number + 1)
wrong_line text rest line remaining items number is splits some said wrong =
    fails_here text rest line remaining items number is splits some
    (λ begins.
    let says = say_middle [] (filter kept is.before) (filter kept begins.more) line items begins.value is.stands.said (begun is.before line begins said) in
    wrong says.0 says.1)
