-- How far a configuration has been judged, and a report.
use Rattle.std.proofs.Common.{◌≡◌, ◌==◌, ℕ, zero, suc, ◌+◌, ◌<◌, ◌≤◌, Bool, true, false, cond, List, [], ◌∷◌, ◌++◌, length, length-append, Option, Some, None, get_or, refl, sym, ap, subst, ◌∙◌, arith, append_assoc}
use Rattle.std.specs.Prelude.{map, slice_get, not, ◌&&◌, ◌||◌}
use Rattle.mb_model.specs.declared.layer.Layer.{Layer}
use Rattle.mb_model.specs.declared.state.Configuration.{Configuration}
use Rattle.mb_policy.specs.declared.policy.Line.{Line}
use Rattle.mb_policy.specs.declared.policy.Line.TheVariants as line
use Rattle.mb_policy.specs.declared.policy.Test.{Test as Node}
use Rattle.mb_policy.specs.declared.policy.Test.TheVariants as node
use Rattle.mb_policy.specs.declared.tables.Hashes.{Hashes}
use Rattle.mb_policy.specs.declared.tables.PerLayer.{PerLayer}
use Rattle.mb_policy.specs.declared.tables.Members.{Members}
use Rattle.mb_policy.specs.Policies.{HashSet, PolicyItem}
use Rattle.mb_policy.specs.Judging.{Situation, listed_layer, some_passes, has_hash, owner_hash, code_hash, input_hash, answer_hash, holds, Ruling, default_ruling, ruling_of}
use Rattle.mb_policy.specs.Meanings.{set_meant, set_at, test_meant, line_meant, items_after, items_of}
use Rattle.mb_policy.specs.Tables.{layer_hashes, asked_hashes, passes_at, members_of_set, no_layer, no_members, members_of_line, test_passes, ruling_of_line}
use Rattle.mb_policy.proofs.PolicyReading.{items_push}

-- ---- members of sets

-- what is asked of the hash of a listed layer
abbrev pub asks : (Layer → Option (List ℕ)) → HashSet → Layer → Bool
asks hash_of set listed = some_passes (has_hash set) (hash_of listed)

empty_has : (o : Option (List ℕ)) → some_passes (has_hash (record { name = []; hashes = [] })) o ≡ false
empty_has None = refl
empty_has (Some hash) = refl

empty_asked : (hash_of : Layer → Option (List ℕ)) (o : Option Layer) → some_passes (asks hash_of (record { name = []; hashes = [] })) o ≡ false
empty_asked hash_of None = refl
empty_asked hash_of (Some layer) = empty_has (hash_of layer)

data LayerCase (m : ℕ) : Type 0 where
  one : m ≡ 1 → LayerCase m
  two : m ≡ 2 → LayerCase m
  three : m ≡ 3 → LayerCase m
  beyond : (m == 1) ≡ false → (m == 2) ≡ false → (m == 3) ≡ false → LayerCase m

layer_case : (m : ℕ) → LayerCase m
layer_case m = by (m == 1) (m == 2) (m == 3) refl refl refl
  where
    by : (a b c : Bool) → (m == 1) ≡ a → (m == 2) ≡ b → (m == 3) ≡ c → LayerCase m
    by true b c e f g = one (grind (arith, e))
    by false true c e f g = two (grind (arith, f))
    by false false true e f g = three (grind (arith, g))
    by false false false e f g = beyond e f g

nowhere : (answers : PerLayer) (m : ℕ) → (m == 1) ≡ false → (m == 2) ≡ false → (m == 3) ≡ false → passes_at answers m ≡ false
nowhere answers m e f g = rw (e, f, g) refl

not_listed : (c : Configuration) (m : ℕ) → (m == 1) ≡ false → (m == 2) ≡ false → (m == 3) ≡ false → listed_layer c m ≡ None
not_listed c m e f g = rw (e, f, g) refl

no_layer_at : (m : ℕ) → passes_at no_layer m ≡ false
no_layer_at m = by (m == 1) (m == 2) (m == 3)
  where
    by : (a b c : Bool) → cond a false (cond b false (cond c false false)) ≡ false
    by true b c = refl
    by false true c = refl
    by false false true = refl
    by false false false = refl

owner_hashed : (set : HashSet) (o : Option Layer) → some_passes (has_hash set) (layer_hashes o).owner ≡ some_passes (asks owner_hash set) o
owner_hashed set None = refl
owner_hashed set (Some layer) = refl

code_hashed : (set : HashSet) (o : Option Layer) → some_passes (has_hash set) (layer_hashes o).code ≡ some_passes (asks code_hash set) o
code_hashed set None = refl
code_hashed set (Some layer) = refl

owner_member : (s : Situation) (set : HashSet) (m : ℕ) → passes_at (members_of_set set (asked_hashes s)).owners m ≡ some_passes (asks owner_hash set) (listed_layer s.configuration m)
owner_member s set m =
    elim (layer_case m) [
      | one e ↦ subst (λ (n : ℕ). passes_at (members_of_set set (asked_hashes s)).owners n ≡ some_passes (asks owner_hash set) (listed_layer s.configuration n)) (sym e) (owner_hashed set (listed_layer s.configuration 1))
      | two e ↦ subst (λ (n : ℕ). passes_at (members_of_set set (asked_hashes s)).owners n ≡ some_passes (asks owner_hash set) (listed_layer s.configuration n)) (sym e) (owner_hashed set (listed_layer s.configuration 2))
      | three e ↦ subst (λ (n : ℕ). passes_at (members_of_set set (asked_hashes s)).owners n ≡ some_passes (asks owner_hash set) (listed_layer s.configuration n)) (sym e) (owner_hashed set (listed_layer s.configuration 3))
      | beyond e f g ↦ nowhere (members_of_set set (asked_hashes s)).owners m e f g ∙ sym (ap (some_passes (asks owner_hash set)) (not_listed s.configuration m e f g))
    ]

code_member : (s : Situation) (set : HashSet) (m : ℕ) → passes_at (members_of_set set (asked_hashes s)).codes m ≡ some_passes (asks code_hash set) (listed_layer s.configuration m)
code_member s set m =
    elim (layer_case m) [
      | one e ↦ subst (λ (n : ℕ). passes_at (members_of_set set (asked_hashes s)).codes n ≡ some_passes (asks code_hash set) (listed_layer s.configuration n)) (sym e) (code_hashed set (listed_layer s.configuration 1))
      | two e ↦ subst (λ (n : ℕ). passes_at (members_of_set set (asked_hashes s)).codes n ≡ some_passes (asks code_hash set) (listed_layer s.configuration n)) (sym e) (code_hashed set (listed_layer s.configuration 2))
      | three e ↦ subst (λ (n : ℕ). passes_at (members_of_set set (asked_hashes s)).codes n ≡ some_passes (asks code_hash set) (listed_layer s.configuration n)) (sym e) (code_hashed set (listed_layer s.configuration 3))
      | beyond e f g ↦ nowhere (members_of_set set (asked_hashes s)).codes m e f g ∙ sym (ap (some_passes (asks code_hash set)) (not_listed s.configuration m e f g))
    ]

-- the members of the sets of lines
abbrev pub table_of : Hashes → List Line → List Members
table_of hashes lines = map (λ line. members_of_line line hashes) lines

-- what the table says at an index is so of the set at that index, for owners or for codes
looked_up : (pick : Members → PerLayer) (hash_of : Layer → Option (List ℕ)) (s : Situation) (before : List PolicyItem) (lines : List Line) (i m : ℕ)
    → ((set : HashSet) → passes_at (pick (members_of_set set (asked_hashes s))) m ≡ some_passes (asks hash_of set) (listed_layer s.configuration m))
    → passes_at (pick no_members) m ≡ false
    → some_passes (λ members. passes_at (pick members) m) (slice_get (table_of (asked_hashes s) lines) i) ≡ some_passes (asks hash_of (set_at (items_after before lines) i)) (listed_layer s.configuration m)
looked_up pick hash_of s before [] i m is none = sym (empty_asked hash_of (listed_layer s.configuration m))
looked_up pick hash_of s before (line.Set set ∷ lines) zero m is none = is (set_meant set)
looked_up pick hash_of s before (line.Set set ∷ lines) (suc i) m is none = looked_up pick hash_of s (before ++ line_meant before (line.Set set) ∷ []) lines i m is none
looked_up pick hash_of s before (line.Rule rule ∷ lines) zero m is none = none ∙ sym (empty_asked hash_of (listed_layer s.configuration m))
looked_up pick hash_of s before (line.Rule rule ∷ lines) (suc i) m is none = looked_up pick hash_of s (before ++ line_meant before (line.Rule rule) ∷ []) lines i m is none

-- what the table says of the call at an index is so of the set at that index, for the input or for the answer
call_looked_up : (pick : Members → Bool) (hash : Option (List ℕ)) (hashes : Hashes) (before : List PolicyItem) (lines : List Line) (i : ℕ)
    → ((set : HashSet) → pick (members_of_set set hashes) ≡ some_passes (has_hash set) hash) → pick no_members ≡ false
    → some_passes pick (slice_get (table_of hashes lines) i) ≡ some_passes (has_hash (set_at (items_after before lines) i)) hash
call_looked_up pick hash hashes before [] i is none = sym (empty_has hash)
call_looked_up pick hash hashes before (line.Set set ∷ lines) zero is none = is (set_meant set)
call_looked_up pick hash hashes before (line.Set set ∷ lines) (suc i) is none = call_looked_up pick hash hashes (before ++ line_meant before (line.Set set) ∷ []) lines i is none
call_looked_up pick hash hashes before (line.Rule rule ∷ lines) zero is none = none ∙ sym (empty_has hash)
call_looked_up pick hash hashes before (line.Rule rule ∷ lines) (suc i) is none = call_looked_up pick hash hashes (before ++ line_meant before (line.Rule rule) ∷ []) lines i is none

-- ---- tests

pub test_judged : (s : Situation) (lines : List Line) (test : Node) → test_passes (table_of (asked_hashes s) lines) s test ≡ holds (test_meant (items_of lines) test) s
test_judged s lines (node.And' p a q b) =
    ap (λ (x : Bool). x && test_passes (table_of (asked_hashes s) lines) s b) (test_judged s lines a) ∙ ap (λ (x : Bool). holds (test_meant (items_of lines) a) s && x) (test_judged s lines b)
test_judged s lines (node.Or' p a q b) =
    ap (λ (x : Bool). x || test_passes (table_of (asked_hashes s) lines) s b) (test_judged s lines a) ∙ ap (λ (x : Bool). holds (test_meant (items_of lines) a) s || x) (test_judged s lines b)
test_judged s lines (node.Not' p a) = ap not (test_judged s lines a)
test_judged s lines (node.Owner layer set) =
    looked_up (λ members. members.owners) owner_hash s [] lines set layer (λ own. owner_member s own layer) (no_layer_at layer)
test_judged s lines (node.Code layer set) =
    looked_up (λ members. members.codes) code_hash s [] lines set layer (λ own. code_member s own layer) (no_layer_at layer)
test_judged s lines (node.Version layer least most) = refl
test_judged s lines (node.Trust layer lower trust) = refl
test_judged s lines (node.Reliable layer) = refl
test_judged s lines (node.Number least most) = refl
test_judged s lines node.First = refl
test_judged s lines node.Last = refl
test_judged s lines (node.Kind kind) = refl
test_judged s lines node.Alive = refl
test_judged s lines node.Statement = refl
test_judged s lines node.Called = refl
test_judged s lines (node.Input set) = call_looked_up (λ members. members.input) (input_hash s.report) (asked_hashes s) [] lines set (λ own. refl) refl
test_judged s lines (node.Answer set) = call_looked_up (λ members. members.answer) (answer_hash s.report) (asked_hashes s) [] lines set (λ own. refl) refl

-- ---- rules

-- Lines have been passed by that say nothing of the configuration; the others are left.
pub record IsPassing (lines : List Line) (s : Situation) (seen : List Members) (index : ℕ) : Type 0 where
  pub before : List Line
  pub later : List Line
  pub split : lines ≡ before ++ later
  pub place : index ≡ length before
  pub table : seen ≡ table_of (asked_hashes s) before
  pub ruling : ruling_of (items_of lines) s ≡ ruling_of (items_after (items_of before) later) s

pub passing_begins : (lines : List Line) (s : Situation) (seen : List Members) → seen ≡ [] → IsPassing lines s seen 0
passing_begins lines s seen none = record { before = []; later = lines; split = refl; place = refl; table = none; ruling = refl }

at_split : (before later : List Line) (i : ℕ) (d : Line) → i ≡ length before → i < length (before ++ later) → (rest : List Line) × (later ≡ get_or (before ++ later) i d ∷ rest)
at_split [] [] i d is within = absurd (omega (arith, within))
at_split [] (x ∷ later) i d is within = (later, ap (λ (n : ℕ). get_or (x ∷ later) n d ∷ later) (sym is))
at_split (b ∷ before) later zero d is within = absurd (omega (arith, is))
at_split (b ∷ before) later (suc i) d is within = at_split before later i d (omega (arith, is)) (omega (arith, within))

pub line_left : (lines : List Line) (s : Situation) (seen : List Members) (index : ℕ) (d it : Line) (is : IsPassing lines s seen index) → index < length lines → it ≡ get_or lines index d
    → (rest : List Line) × (is.later ≡ it ∷ rest)
line_left lines s seen index d it is within here =
    let there = at_split is.before is.later index d is.place (omega (arith, within, ap length is.split)) in
    (there.0, there.1 ∙ ap (λ (x : Line). x ∷ there.0) (ap (λ (xs : List Line). get_or xs index d) (sym is.split) ∙ sym here))

-- a line that rules, and one that says nothing
pub line_rules : (s : Situation) (before rest : List Line) (it : Line) (ruling : Ruling) → ruling_of_line (table_of (asked_hashes s) before) s it ≡ Some ruling
    → ruling_of (items_after (items_of before) (it ∷ rest)) s ≡ ruling
line_rules s before rest (line.Set set) ruling is = absurd cc
line_rules s before rest (line.Rule rule) ruling is = by (test_passes (table_of (asked_hashes s) before) s rule.test) (test_judged s before rule.test) is
  where
    next : Ruling
    next = ruling_of (items_after (items_of before ++ line_meant (items_of before) (line.Rule rule) ∷ []) rest) s

    own : Ruling
    own = record { name = rule.name; allows = rule.allows }

    by : (b : Bool) → b ≡ holds (test_meant (items_of before) rule.test) s → cond b (Some own) None ≡ Some ruling
        → cond (holds (test_meant (items_of before) rule.test) s) own next ≡ ruling
    by true e f = let same : own ≡ ruling = cc in ap (λ (b : Bool). cond b own next) (sym e) ∙ same
    by false e f = absurd cc

pub line_passes : (s : Situation) (before rest : List Line) (it : Line) → ruling_of_line (table_of (asked_hashes s) before) s it ≡ None
    → ruling_of (items_after (items_of before) (it ∷ rest)) s ≡ ruling_of (items_after (items_of before ++ line_meant (items_of before) it ∷ []) rest) s
line_passes s before rest (line.Set set) is = refl
line_passes s before rest (line.Rule rule) is = by (test_passes (table_of (asked_hashes s) before) s rule.test) (test_judged s before rule.test) is
  where
    next : Ruling
    next = ruling_of (items_after (items_of before ++ line_meant (items_of before) (line.Rule rule) ∷ []) rest) s

    own : Ruling
    own = record { name = rule.name; allows = rule.allows }

    by : (b : Bool) → b ≡ holds (test_meant (items_of before) rule.test) s → cond b (Some own) None ≡ None
        → cond (holds (test_meant (items_of before) rule.test) s) own next ≡ next
    by true e f = absurd cc
    by false e f = ap (λ (b : Bool). cond b own next) (sym e)

at_table : (s : Situation) (lines : List Line) (seen : List Members) (index : ℕ) (it : Line) (found : Option Ruling) (is : IsPassing lines s seen index) → ruling_of_line seen s it ≡ found
    → ruling_of_line (table_of (asked_hashes s) is.before) s it ≡ found
at_table s lines seen index it found is by_seen = ap (λ (x : List Members). ruling_of_line x s it) (sym is.table) ∙ by_seen

pub rule_found : (lines : List Line) (s : Situation) (seen : List Members) (index : ℕ) (d it : Line) (ruling : Ruling) → IsPassing lines s seen index → index < length lines → it ≡ get_or lines index d
    → ruling_of_line seen s it ≡ Some ruling → ruling ≡ ruling_of (items_of lines) s
rule_found lines s seen index d it ruling is within here found =
    let left = line_left lines s seen index d it is within here in
    sym (is.ruling ∙ ap (λ (xs : List Line). ruling_of (items_after (items_of is.before) xs) s) left.1
    ∙ line_rules s is.before left.0 it ruling (at_table s lines seen index it (Some ruling) is found))

map_push : (hashes : Hashes) (lines : List Line) (it : Line) → table_of hashes (lines ++ it ∷ []) ≡ table_of hashes lines ++ members_of_line it hashes ∷ []
map_push hashes [] it = refl
map_push hashes (x ∷ lines) it = ap (λ (xs : List Members). members_of_line x hashes ∷ xs) (map_push hashes lines it)

pub line_passed : (lines : List Line) (s : Situation) (seen more : List Members) (index : ℕ) (d it : Line) (members : Members) (hashes : Hashes) → IsPassing lines s seen index → index < length lines
    → it ≡ get_or lines index d → ruling_of_line seen s it ≡ None → hashes ≡ asked_hashes s → members ≡ members_of_line it hashes → more ≡ seen ++ members ∷ []
    → IsPassing lines s more (index + 1)
line_passed lines s seen more index d it members hashes is within here none hashed membered pushed =
    let left = line_left lines s seen index d it is within here in
    let own = asked_hashes s in
    record {
      before = is.before ++ it ∷ [];
      later = left.0;
      split = is.split ∙ ap (λ (xs : List Line). is.before ++ xs) left.1 ∙ sym (append_assoc is.before (it ∷ []) left.0);
      place = omega (arith, is.place, length-append is.before (it ∷ []));
      table =
          pushed ∙ ap (λ (xs : List Members). xs ++ members ∷ []) is.table
          ∙ ap (λ (x : Members). table_of own is.before ++ x ∷ []) (membered ∙ ap (members_of_line it) hashed)
          ∙ sym (map_push own is.before it);
      ruling =
          is.ruling ∙ ap (λ (xs : List Line). ruling_of (items_after (items_of is.before) xs) s) left.1
          ∙ line_passes s is.before left.0 it (at_table s lines seen index it None is none)
          ∙ ap (λ (xs : List PolicyItem). ruling_of (items_after xs left.0) s) (sym (items_push [] is.before it));
    }

pub all_passed : (lines : List Line) (s : Situation) (seen : List Members) (index : ℕ) → IsPassing lines s seen index → length lines ≤ index → default_ruling ≡ ruling_of (items_of lines) s
all_passed lines s seen index is over =
    sym (is.ruling ∙ ap (λ (xs : List Line). ruling_of (items_after (items_of is.before) xs) s) (none_left is.later (omega (arith, is.place, over, ap length is.split, length-append is.before is.later))))
  where
    none_left : (xs : List Line) → length xs ≡ 0 → xs ≡ []
    none_left [] e = refl
    none_left (x ∷ xs) e = absurd (omega (arith, e))
