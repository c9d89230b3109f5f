-- Small policies, computed.
use Rattle.std.proofs.Common.{◌≡◌, ℕ, ◌≤◌, inr, Bool, true, false, List, [], ◌∷◌, length, Some, None, Ok, refl, sym, ap, subst, ◌∙◌, arith, codes, lit≤}
use Rattle.std.specs.Prelude.{replicate, filter, not, ◌&&◌, ◌||◌, ◌==◌, ◌≢◌, ◌++◌}
use Rattle.std.specs.List.{list_any, list_all}
use Rattle.std.proofs.lemmas.Bool.{false≢true}
use Rattle.std.proofs.lemmas.List.Elements.{All-nil, All-cons}
use Rattle.std.specs.Fmt.{digits}
use Rattle.sha2.specs.Sha256.{sha256}
use Rattle.mb_format.proofs.Fields.{same_bytes-refl}
use Rattle.hex.specs.Hex.{decode_of, decode_pairs}
use Rattle.mb_model.specs.outside.Texts.{IsHex}
use Rattle.mb_model.specs.chains.Lines.{IsLine, IsBeginning, TextFailsAtLine}
use Rattle.mb_model.specs.chains.Script.{IsName, is_skipped}
use Rattle.mb_model_lemmas.proofs.LineLemmas.{cons_same, cons_none, HasLines-on, HasLines-nil, IsBeginning-all, bad_after}
use Rattle.mb_policy.specs.declared.judging.Judgement.TheVariants as judgement
use Rattle.mb_policy.specs.Policies.{Test, comes_last, key_lives, PolicyRule, PolicyItem, set_item, rule_item, line_words, is_rule_named, verb_word, test_words, IsHashWord, SaysRule, SaysItem, SayItems, IsPolicy}
use Rattle.mb_policy.specs.Judging.{Ruling, ruling_at, IsJudged}
use Rattle.mb_policy.specs.Reading.{reads, keyword_in, number_in, layer_in, layer_first, set_first, reads_code, reads_reliable}
use Rattle.mb_policy.specs.Meanings.{SaysTest}
use Rattle.mb_policy.specs.Examples.{PolicyExamples, PolicyCounterExamples, JudgementExamples, JudgementCounterExamples, small_report, small_configuration, allow_rule, deny_rule}
use Rattle.mb_policy.proofs.Exact.{not_said, more_than_said}
use Rattle.mb_policy.proofs.PolicyReading.{verbs_differ, SaysItem-same}
use Rattle.mb_policy.proofs.Clearness.{policies_clear, judgements_clear}

-- ---- lines that say a policy

abbrev is_printed : ℕ → Type 0
is_printed byte = (0x21 ≤ byte) × (byte ≤ 0x7E)

early : IsName (codes "early")
early = record {
  some = lit≤ tt;
  most = lit≤ tt;
  printed = All-cons is_printed 101 (codes "arly") (lit≤ tt, lit≤ tt) (All-cons is_printed 97 (codes "rly") (lit≤ tt, lit≤ tt) (All-cons is_printed 114 (codes "ly") (lit≤ tt, lit≤ tt) (All-cons is_printed 108 (codes "y") (lit≤ tt, lit≤ tt) (All-cons is_printed 121 [] (lit≤ tt, lit≤ tt) (All-nil is_printed)))));
}

any_name : IsName (codes "any")
any_name = record {
  some = lit≤ tt;
  most = lit≤ tt;
  printed = All-cons is_printed 97 (codes "ny") (lit≤ tt, lit≤ tt) (All-cons is_printed 110 (codes "y") (lit≤ tt, lit≤ tt) (All-cons is_printed 121 [] (lit≤ tt, lit≤ tt) (All-nil is_printed)));
}

good : IsName (codes "good")
good = record {
  some = lit≤ tt;
  most = lit≤ tt;
  printed = All-cons is_printed 103 (codes "ood") (lit≤ tt, lit≤ tt) (All-cons is_printed 111 (codes "od") (lit≤ tt, lit≤ tt) (All-cons is_printed 111 (codes "d") (lit≤ tt, lit≤ tt) (All-cons is_printed 100 [] (lit≤ tt, lit≤ tt) (All-nil is_printed))));
}

short : IsName (codes "a")
short = record {
  some = lit≤ tt;
  most = lit≤ tt;
  printed = All-cons is_printed 97 [] (lit≤ tt, lit≤ tt) (All-nil is_printed);
}

-- a word of digits
hex : (word : List ℕ) (byte : ℕ) (rest bytes : List ℕ) → word ≡ byte ∷ rest → decode_of word ≡ Ok bytes → IsHex word bytes
hex word byte rest bytes some digits = inr ((λ none. cons_none byte rest (sym none ∙ some)), digits)

ones : IsHashWord (codes "1111111111111111111111111111111111111111111111111111111111111111") (replicate 32 17)
unfolding digits decode_pairs
ones = (refl, hex (codes "1111111111111111111111111111111111111111111111111111111111111111") 49 _ (replicate 32 17) refl refl)

-- a line that begins as a rule does, and whose other words say no test
no_test : (before : List PolicyItem) (line name : List ℕ) (allows : Bool) (words : List (List ℕ)) → line_words line ≡ verb_word allows ∷ name ∷ words → ((test : Test) → SaysTest before words test → ⊥)
    → (item : PolicyItem) → SaysItem before line item → ⊥
no_test before line name allows words are none (set_item set) says = verbs_differ _ _ allows (sym says.spelled ∙ are)
no_test before line name allows words are none (rule_item rule) says =
    let more = (cons_same (verb_word allows) (verb_word rule.allows) (name ∷ words) (rule.name ∷ test_words rule.test) (sym are ∙ says.spelled)).1 in
    none rule.test (record { spelled = (cons_same name rule.name words (test_words rule.test) more).1; follows = says.follows; shallow = says.shallow })

-- ---- a text whose first line is wrong

-- bytes that are no LF are a line
no_feeds : (bytes : List ℕ) → list_all (λ byte. not (byte == 10)) bytes ≡ true → IsLine bytes
no_feeds [] e = All-nil (λ byte. byte ≢ 10)
no_feeds (byte ∷ bytes) e = by (byte == 10) refl (no_feeds bytes) e
  where
    by : (b : Bool) → (byte == 10) ≡ b → (list_all (λ other. not (other == 10)) bytes ≡ true → IsLine bytes) → (not b && list_all (λ other. not (other == 10)) bytes) ≡ true → IsLine (byte ∷ bytes)
    by true is later e = absurd cc
    by false is later e = All-cons (λ other. other ≢ 10) byte bytes (λ same. absurd (grind (arith, is, same))) (later e)

missing : reads [] 32 (codes "code" ∷ codes "3" ∷ codes "good" ∷ []) ≡ None
unfolding reads keyword_in reads_code layer_first layer_in number_in set_first digits
missing = refl

missing_item : (item : PolicyItem) → SaysItem [] (codes "allow a code 3 good") item → ⊥
unfolding line_words
missing_item item says =
    no_test [] (codes "allow a code 3 good") (codes "a") true (codes "code" ∷ codes "3" ∷ codes "good" ∷ []) refl (not_said [] (codes "code" ∷ codes "3" ∷ codes "good" ∷ []) missing) item says

missing_begins : IsBeginning IsPolicy (codes "allow a code 3 good" ∷ []) → ⊥
missing_begins begins = by begins.value begins.stands.said
  where
    by : (items : List PolicyItem) → SayItems [] (codes "allow a code 3 good" ∷ filter (λ line. not (is_skipped line)) begins.more) items → ⊥
    by [] said = said
    by (x ∷ items) said = missing_item x said.0

first_wrong : TextFailsAtLine IsPolicy (codes "allow a code 3 good" ++ 10 ∷ []) 1
first_wrong = record {
  lines = codes "allow a code 3 good" ∷ [];
  has = HasLines-on (codes "allow a code 3 good" ++ 10 ∷ []) (codes "allow a code 3 good") [] [] (no_feeds (codes "allow a code 3 good") refl) refl HasLines-nil;
  fails = bad_after IsPolicy [] (codes "allow a code 3 good") [] (IsBeginning-all IsPolicy [] [] (record { said = refl; few = lit≤ tt })) missing_begins;
}

pub policy_examples : PolicyExamples
unfolding line_words digits
policy_examples = record {
  empty = record { said = refl; few = lit≤ tt };
  skipped = record { said = refl; few = lit≤ tt };
  rules = record {
    said = (
      record { spelled = refl; named = early; no_default = λ e. omega (arith, ap length e); new = refl; follows = (lit≤ tt, lit≤ tt); shallow = lit≤ tt },
      (
        record { spelled = refl; named = any_name; no_default = λ e. omega (arith, ap length e); new = refl; follows = tt; shallow = lit≤ tt },
        refl,
      ),
    );
    few = lit≤ tt;
  };
  first_line = first_wrong;
  set = record {
    said = (
      record {
        hash_words = codes "1111111111111111111111111111111111111111111111111111111111111111" ∷ [];
        spelled = refl;
        named = good;
        new = refl;
        said = (ones, tt);
        some = lit≤ tt;
        few = lit≤ tt;
      },
      (
        record { spelled = refl; named = short; no_default = λ e. omega (arith, ap length e); new = refl; follows = (refl, refl); shallow = lit≤ tt },
        refl,
      ),
    );
    few = lit≤ tt;
  };
}

-- ---- lines that say none

only_line : (line : List ℕ) (items : List PolicyItem) → SayItems [] (line ∷ []) items → (item : PolicyItem) × SaysItem [] line item
only_line line [] said = absurd said
only_line line (x ∷ items) said = (x, said.0)

-- the name of a rule
rule_name : (before : List PolicyItem) (line name : List ℕ) (allows : Bool) (words : List (List ℕ)) (rule : PolicyRule) → line_words line ≡ verb_word allows ∷ name ∷ words → SaysRule before (line_words line) rule
    → name ≡ rule.name
rule_name before line name allows words rule are says =
    let more = (cons_same (verb_word allows) (verb_word rule.allows) (name ∷ words) (rule.name ∷ test_words rule.test) (sym are ∙ says.spelled)).1 in
    (cons_same name rule.name words (test_words rule.test) more).0

fourth : reads [] 32 (codes "reliable" ∷ codes "4" ∷ []) ≡ None
unfolding reads keyword_in reads_reliable layer_first layer_in number_in digits
fourth = refl

one_alive : reads [] 32 (codes "alive" ∷ codes "alive" ∷ []) ≡ Some (key_lives, codes "alive" ∷ [])
unfolding reads keyword_in
one_alive = refl

named_default : (item : PolicyItem) → SaysItem [] (codes "allow default alive") item → ⊥
unfolding line_words
named_default (set_item set) says = verbs_differ _ _ true (sym says.spelled)
named_default (rule_item rule) says = says.no_default (sym (rule_name [] (codes "allow default alive") (codes "default") true (codes "alive" ∷ []) rule refl says))

first_said : SaysItem [] (codes "allow a alive") (allow_rule (codes "a") key_lives)
unfolding line_words
first_said = record { spelled = refl; named = short; no_default = λ e. omega (arith, ap length e); new = refl; follows = tt; shallow = lit≤ tt }

second_none : (item : PolicyItem) → SaysItem (allow_rule (codes "a") key_lives ∷ []) (codes "deny a last") item → ⊥
unfolding line_words
second_none (set_item set) says = verbs_differ _ _ false (sym says.spelled)
second_none (rule_item rule) says =
    let name = rule_name (allow_rule (codes "a") key_lives ∷ []) (codes "deny a last") (codes "a") false (codes "last" ∷ []) rule refl says in
    let none = ap (λ (n : List ℕ). list_any (is_rule_named n) (allow_rule (codes "a") key_lives ∷ [])) name ∙ says.new in
    false≢true (sym none)

named_twice : (items : List PolicyItem) → SayItems [] (codes "allow a alive" ∷ codes "deny a last" ∷ []) items → ⊥
named_twice [] said = said
named_twice (x ∷ []) said = said.1
named_twice (x ∷ y ∷ items) said =
    let same = SaysItem-same [] (codes "allow a alive") x (allow_rule (codes "a") key_lives) said.0 first_said in
    second_none y (subst (λ (i : PolicyItem). SaysItem (i ∷ []) (codes "deny a last") y) same said.1.0)

pub policy_counter_examples : PolicyCounterExamples
unfolding line_words
policy_counter_examples = record {
  second_line = λ wrong. omega (arith, policies_clear.one_line (codes "allow a code 3 good" ++ 10 ∷ []) 1 2 first_wrong wrong);
  missing_set = λ items is. let one = only_line (codes "allow a code 3 good") items is.said in missing_item one.0 one.1;
  named_default = λ items is. let one = only_line (codes "allow default alive") items is.said in named_default one.0 one.1;
  named_twice = λ items is. named_twice items is.said;
  word_left = λ items is.
      let one = only_line (codes "allow a alive alive") items is.said in
      no_test [] (codes "allow a alive alive") (codes "a") true (codes "alive" ∷ codes "alive" ∷ []) refl
      (more_than_said [] (codes "alive" ∷ codes "alive" ∷ []) (codes "alive" ∷ []) key_lives (codes "alive") [] one_alive refl) one.0 one.1;
  fourth_layer = λ items is.
      let one = only_line (codes "allow a reliable 4") items is.said in
      no_test [] (codes "allow a reliable 4") (codes "a") true (codes "reliable" ∷ codes "4" ∷ []) refl (not_said [] (codes "reliable" ∷ codes "4" ∷ []) fourth) one.0 one.1;
  too_deep = λ before words rule deep says. omega (arith, deep, says.shallow);
}

-- ---- judgements

nothing_denied : IsJudged [] small_report (judgement.Denied 4 (codes "default"))
nothing_denied = record {
  index = 0;
  configuration = small_configuration 4;
  there = refl;
  before = λ index c less at. absurd (omega (arith, less));
  denied = refl;
  number_is = refl;
}

all_allowed : IsJudged (allow_rule (codes "a") key_lives ∷ []) small_report judgement.Allowed
all_allowed = λ index c less at. refl

last_denied : IsJudged (deny_rule (codes "late") comes_last ∷ allow_rule (codes "a") key_lives ∷ []) small_report (judgement.Denied 5 (codes "late"))
last_denied = record {
  index = 1;
  configuration = small_configuration 5;
  there = refl;
  before = λ index c less at.
      let place : index ≡ 0 = omega (arith, less) in
      ap (λ (i : ℕ). (ruling_at (deny_rule (codes "late") comes_last ∷ allow_rule (codes "a") key_lives ∷ []) small_report i c).allows) place;
  denied = refl;
  number_is = refl;
}

pub judgement_examples : JudgementExamples
judgement_examples = record {
  nothing = nothing_denied;
  all = all_allowed;
  denied = last_denied;
  allowed = λ index c less at. refl;
  code = refl;
  other_code = refl;
  not_listed = refl;
  stated = refl;
  called = refl;
  message = refl;
  not_called = refl;
  input = refl;
  other_input = refl;
  no_input = refl;
  answer = ap (λ (b : Bool). b || false) (same_bytes-refl (sha256 (codes "abc")));
  not_trusted = refl;
}

other_number : (m n : ℕ) (a b : List ℕ) → judgement.Denied m a ≡ judgement.Denied n b → (m ≡ n) × (a ≡ b)
other_number m n a b e = (cc, cc)

pub judgement_counter_examples : JudgementCounterExamples
judgement_counter_examples = record {
  no_rule = λ allowed. false≢true (allowed 0 (small_configuration 4) (lit≤ tt) refl);
  denied_first = λ allowed. false≢true (allowed 1 (small_configuration 5) (lit≤ tt) refl);
  later = λ is. omega (arith, (other_number 5 4 (codes "default") (codes "default") (judgements_clear.one_judgement [] small_report _ _ is nothing_denied)).0);
  other_name = λ is. omega (arith, ap length (other_number 4 4 (codes "a") (codes "default") (judgements_clear.one_judgement [] small_report _ _ is nothing_denied)).1);
  allowed = λ number name is.
      false≢true (sym (ap (λ (r : Ruling). r.allows) is.denied));
}
