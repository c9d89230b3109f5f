-- What one line says: a set, a rule, or nothing.
use Rattle.std.proofs.Common.{◌≡◌, ◌≢◌, ℕ, List, [], ◌∷◌, Bool, true, false, Option, Some, None, Result, Ok, Err, refl, sym, ap, subst, ◌∙◌, codes}
use Rattle.std.specs.Prelude.{position, is_some}
use Rattle.std.specs.List.{list_any}
use Rattle.std.specs.Str.{bytes_eq}
use Rattle.mb_model.specs.chains.Script.{IsName}
use Rattle.mb_model_lemmas.proofs.LineLemmas.{cons_same}
use Rattle.mb_words.specs.declared.said.NotSaid.{NotSaid}
use Rattle.mb_words.specs.declared.said.NotSaid.TheVariants as why
use Rattle.mb_policy.specs.declared.keyword.Verb.{Verb}
use Rattle.mb_policy.specs.declared.keyword.Verb.TheVariants as verb
use Rattle.mb_policy.specs.declared.policy.Line.{Line}
use Rattle.mb_policy.specs.declared.policy.NamedSet.{NamedSet}
use Rattle.mb_policy.specs.declared.policy.Rule.{Rule}
use Rattle.mb_policy.specs.declared.policy.Test.{Test as Node}
use Rattle.mb_policy.specs.Policies.{HashSet, PolicyRule, PolicyItem, set_item, rule_item, line_words, set_named, is_rule_named, verb_word, test_words, SaysSet, SaysRule, SaysItem}
use Rattle.mb_policy.specs.Reading.{verb_name}
use Rattle.mb_policy.specs.Meanings.{set_given, test_meant, items_of, line_has_set, line_has_rule, SaysHashes, SaysTest, MakesSet, MakesRule, ReadsSet, ReadsRule}
use Rattle.mb_policy.proofs.Names.{sets_named, rules_named}

-- ---- sets

-- the name and the words after it, in words that say a set
set_parts : (items : List PolicyItem) (words rest : List (List ℕ)) (name : List ℕ) (set : HashSet) (is : SaysSet items (codes "set" ∷ words) set) → words ≡ name ∷ rest
    → (name ≡ set.name) × (rest ≡ is.hash_words)
set_parts items words rest name set is next =
    cons_same name set.name rest is.hash_words (sym next ∙ (cons_same (codes "set") (codes "set") words (set.name ∷ is.hash_words) is.spelled).1)

found_none : (items : List PolicyItem) (found : Option ℕ) → set_given items found ≡ None → is_some found ≡ true → ⊥
found_none items None e some = absurd cc
found_none items (Some index) e some = absurd cc

pub set_taken : (lines : List Line) (words rest : List (List ℕ)) (name : List ℕ) (found : Option ℕ) (taken : Bool) → words ≡ name ∷ rest → found ≡ position (line_has_set name) lines
    → taken ≡ is_some found → taken ≡ true → (set : HashSet) → SaysSet (items_of lines) (codes "set" ∷ words) set → ⊥
set_taken lines words rest name found taken next finds some is set says =
    let parts = set_parts (items_of lines) words rest name set says next in
    found_none (items_of lines) found
    (ap (set_given (items_of lines)) finds ∙ sets_named name [] lines ∙ ap (set_named (items_of lines)) parts.0 ∙ says.new) (sym some ∙ is)

not_taken : (items : List PolicyItem) (found : Option ℕ) → is_some found ≡ false → set_given items found ≡ None
not_taken items None e = refl
not_taken items (Some index) e = absurd cc

set_said : (lines : List Line) (words rest : List (List ℕ)) (name : List ℕ) (hashes : List (List ℕ)) → words ≡ name ∷ rest → IsName name → set_named (items_of lines) name ≡ None → SaysHashes rest hashes
    → SaysSet (items_of lines) (codes "set" ∷ words) (record { name = name; hashes = hashes })
set_said lines words rest name hashes next named new says = record {
  hash_words = rest;
  spelled = ap (λ (ws : List (List ℕ)). codes "set" ∷ ws) next;
  named = named;
  new = new;
  said = says.said;
  some = says.some;
  few = says.few;
}

pub set_made : (lines : List Line) (words rest : List (List ℕ)) (name : List ℕ) (found : Option ℕ) (taken : Bool) (hashes : List (List ℕ)) (result : Result NamedSet NotSaid)
    → words ≡ name ∷ rest → IsName name → found ≡ position (line_has_set name) lines → taken ≡ is_some found → taken ≡ false → SaysHashes rest hashes → MakesSet name hashes result
    → ReadsSet (items_of lines) (codes "set" ∷ words) result
set_made lines words rest name found taken hashes (Ok set) next named finds some isnt says makes =
    subst (λ (s : HashSet). SaysSet (items_of lines) (codes "set" ∷ words) s) (sym makes)
    (set_said lines words rest name hashes next named
    (sym (ap (set_given (items_of lines)) finds ∙ sets_named name [] lines) ∙ not_taken (items_of lines) found (sym some ∙ isnt)) says)
set_made lines words rest name found taken hashes (Err why.Form) next named finds some isnt says makes = absurd makes
set_made lines words rest name found taken hashes (Err why.NoMemory) next named finds some isnt says makes = tt

-- ---- rules

rule_parts : (allows : Bool) (items : List PolicyItem) (words rest : List (List ℕ)) (name : List ℕ) (rule : PolicyRule) (is : SaysRule items (verb_word allows ∷ words) rule) → words ≡ name ∷ rest
    → (name ≡ rule.name) × (rest ≡ test_words rule.test)
rule_parts allows items words rest name rule is next =
    cons_same name rule.name rest (test_words rule.test) (sym next ∙ (cons_same (verb_word allows) (verb_word rule.allows) words (rule.name ∷ test_words rule.test) is.spelled).1)

pub rule_taken : (allows : Bool) (lines : List Line) (words rest : List (List ℕ)) (name : List ℕ) (taken : Bool) → words ≡ name ∷ rest → taken ≡ list_any (line_has_rule name) lines
    → taken ≡ true → (rule : PolicyRule) → SaysRule (items_of lines) (verb_word allows ∷ words) rule → ⊥
rule_taken allows lines words rest name taken next finds is rule says =
    let parts = rule_parts allows (items_of lines) words rest name rule says next in
    let none = sym is ∙ finds ∙ sym (rules_named name [] lines) ∙ ap (λ (n : List ℕ). list_any (is_rule_named n) (items_of lines)) parts.0 ∙ says.new in
    absurd cc

pub other_name : (same : Bool) (name other : List ℕ) → same ≡ bytes_eq name other → other ≡ codes "default" → same ≡ false → name ≢ codes "default"
other_name same name other is text isnt e =
    let no : bytes_eq (codes "default") (codes "default") ≡ false = ap (λ (n : List ℕ). bytes_eq n (codes "default")) (sym e) ∙ ap (bytes_eq name) (sym text) ∙ sym is ∙ isnt in
    absurd cc

rule_said : (allows : Bool) (lines : List Line) (words rest : List (List ℕ)) (name : List ℕ) (test : Node) → words ≡ name ∷ rest → IsName name → name ≢ codes "default"
    → list_any (line_has_rule name) lines ≡ false → SaysTest (items_of lines) rest (test_meant (items_of lines) test)
    → SaysRule (items_of lines) (verb_word allows ∷ words) (record { name = name; allows = allows; test = test_meant (items_of lines) test })
rule_said allows lines words rest name test next named other new says = record {
  spelled = ap (λ (ws : List (List ℕ)). verb_word allows ∷ ws) (next ∙ ap (λ (ws : List (List ℕ)). name ∷ ws) says.spelled);
  named = named;
  no_default = other;
  new = rules_named name [] lines ∙ new;
  follows = says.follows;
  shallow = says.shallow;
}

pub rule_made : (allows : Bool) (lines : List Line) (words rest : List (List ℕ)) (name : List ℕ) (test : Node) (result : Result Rule NotSaid) → words ≡ name ∷ rest → IsName name → name ≢ codes "default"
    → list_any (line_has_rule name) lines ≡ false → SaysTest (items_of lines) rest (test_meant (items_of lines) test) → MakesRule name allows test result
    → ReadsRule allows (items_of lines) words result
rule_made allows lines words rest name test (Ok rule) next named other new says makes =
    subst (λ (r : PolicyRule). SaysRule (items_of lines) (verb_word allows ∷ words) r) (sym (makes (items_of lines))) (rule_said allows lines words rest name test next named other new says)
rule_made allows lines words rest name test (Err why.Form) next named other new says makes = absurd makes
rule_made allows lines words rest name test (Err why.NoMemory) next named other new says makes = tt

-- ---- lines

pub no_verb : (items : List PolicyItem) (line word : List ℕ) (rest words : List (List ℕ)) → words ≡ line_words line → words ≡ word ∷ rest → ((v : Verb) → word ≡ verb_name v → ⊥)
    → (item : PolicyItem) → SaysItem items line item → ⊥
no_verb items line word rest words are next none (set_item set) says =
    none verb.Set (cons_same word (codes "set") rest (set.name ∷ says.hash_words) (sym next ∙ are ∙ says.spelled)).0
no_verb items line word rest words are next none (rule_item rule) says =
    by rule.allows (cons_same word (verb_word rule.allows) rest (rule.name ∷ test_words rule.test) (sym next ∙ are ∙ says.spelled)).0
  where
    by : (allows : Bool) → word ≡ verb_word allows → ⊥
    by true e = none verb.Allow e
    by false e = none verb.Deny e
