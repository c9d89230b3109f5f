-- Looking over the parts of an order that have several fields.
use Rattle.std.proofs.Common.{◌≡◌, ℕ, ◌+◌, ◌-◌, ◌≤◌, Bool, false, List, length, Some, Result, Ok, Err, refl, ap, ◌∙◌, arith, lit<, inl, inr}
use Rattle.std.specs.Prelude.{◌==◌, if◌then◌else◌}
use Rattle.std.specs.Int.{w8, w32}
use Rattle.std.proofs.lemmas.Bool.{cases_lt}
use Rattle.mb_format.specs.Format.{Format}
use Rattle.mb_format.specs.Combinators.{raw, number, between, table, listed, row_of, nothing, both, pair, led, sized, items, times, counted}
use Rattle.mb_format.specs.Reading.{IsExact}
use Rattle.mb_format.proofs.Fields.{wide8, wide32, raw_exact, number_exact, between_exact, table_exact, nothing_exact}
use Rattle.mb_format.proofs.Compositions.{pair_exact, times_exact, items_exact}
use Rattle.mb_bytes.specs.declared.cursor.Cursor.{Cursor}
use Rattle.mb_bytes.proofs.Exactly.{stands}
use Rattle.mb_model.specs.signatures.Key.{tree_type, chains_type}
use Rattle.mb_model.specs.records.KeyFormat.{tree_rows, chains_rows, public_key_format}
use Rattle.mb_model.specs.declared.key.Trust.{Trust}
use Rattle.mb_model.specs.declared.order.Act.{Act}
use Rattle.mb_model.specs.declared.order.Act.TheVariants.{Establish, Surrender, Load, Emergency, NewKey}
use Rattle.mb_model.specs.declared.order.Target.TheVariants.{Serial, Length, Owner, Code}
use Rattle.mb_model.specs.declared.order.OrderForm.{OrderForm}
use Rattle.mb_model.specs.declared.order.OrderKind.{OrderKind}
use Rattle.mb_model.specs.declared.order.OrderKind.TheVariants as kind
use Rattle.mb_model.specs.owners.Layers.{equal_trusts}
use Rattle.mb_model.specs.records.LayerFormat.{trust_byte, trust_format}
use Rattle.mb_model.specs.records.EntryFormat.{key_kind_format}
use Rattle.mb_model.specs.owners.Rules.{kind_of, least_layer}
use Rattle.mb_model.specs.records.OrderFormat.{establish_in, load_in, emergency_in, made_in, form_of, body_of, target_tag, TargetTag, serial_tag, length_tag, owner_tag, code_tag, target_rows, target_byte, demanded_serial, demanded_length, demanded_owner, demanded_code, target_by, target_format, form_rows, form_byte, other_rows, differing_trusts, given_trusts, payload_format, act_by, Body, body_by, body_format, sized_signature_format, Climb, countersignature_format, climb_after, countersignature_limit, countersignatures_format, order_format}
use Rattle.mb_model.proofs.KeyFormatLaws.{tree_table, chains_table, public_key_exact, trust_exact}
use Rattle.mb_model.proofs.OrderFormatLaws.{target_table, target_exact, target_by-exact, given_exact, act_by-exact, body_by-exact, body_exact, sized_signature_exact, below_four, countersignature_exact, most_small, countersignatures_exact}
use Rattle.mb_command.specs.declared.stuck.Stuck.{Stuck}
use Rattle.mb_command.specs.declared.stuck.Heading.{Heading}
use Rattle.mb_command.specs.Beginnings.{IsInhabited}
use Rattle.mb_command.specs.Surveys.{IsFound, IsStuck, Surveys, NothingTold, IsTold, IsHeadingOf, IsLayerOf, countersignatures_above}
use Rattle.mb_command.proofs.Inhabited as some
use Rattle.mb_command.proofs.OrderParts as part
use Rattle.mb_command.proofs.Surveying.{IsTableOf, table_found, table_stuck, both_found, both_stuck, both_stuck_later, both_surveys, made_found, made_stuck, made_surveys}

-- ---- one field after another

pub pair_stuck : {K B : Type 0} (f : Format K) (g : Format B) (old new : Cursor) (e : Stuck) → IsExact f → IsExact g → IsInhabited g → IsStuck f old e new → IsStuck (pair f g) old e new
pair_stuck f g old new e exact after one s = both_stuck f (λ a. g) old new e exact (λ a h. after) (λ a h. one) s

pub pair_stuck_later : {K B : Type 0} (f : Format K) (g : Format B) (T : K → Type 0) (old middle new : Cursor) (e : Stuck) → IsExact f → IsFound f old middle T → IsStuck g middle e new → IsStuck (pair f g) old e new
pair_stuck_later f g T old middle new e exact p s = both_stuck_later f (λ a. g) T old middle new e exact p s

pub pair_surveys : {K B : Type 0} (f : Format K) (g : Format B) (T : K → Type 0) (old middle new : Cursor) (r : Result (Unit {0}) Stuck) → IsExact f → IsFound f old middle T → Surveys NothingTold g middle r new → Surveys NothingTold (pair f g) old r new
pair_surveys f g T old middle new r exact p s = both_surveys f (λ a. g) T old middle new r exact p s

-- ---- a public key

tree_exact : IsExact (table w32 tree_rows tree_type)
tree_exact = table_exact wide32 tree_table

chain_exact : IsExact (table w32 chains_rows chains_type)
chain_exact = table_exact wide32 chains_table

two_exact : IsExact (pair (raw 16) (raw 32))
two_exact = pair_exact (raw_exact 16) (raw_exact 32)

three_exact : IsExact (pair (table w32 chains_rows chains_type) (pair (raw 16) (raw 32)))
three_exact = pair_exact chain_exact two_exact

two_inhabited : IsInhabited (pair (raw 16) (raw 32))
two_inhabited = some.pair_inhabited (some.raw_inhabited 16) (some.raw_inhabited 32)

three_inhabited : IsInhabited (pair (table w32 chains_rows chains_type) (pair (raw 16) (raw 32)))
three_inhabited = some.pair_inhabited part.chains_inhabited two_inhabited

pub key_tree_stuck : (old new : Cursor) (e : Stuck) → IsStuck (table w32 tree_rows tree_type) old e new → IsStuck public_key_format old e new
unfolding public_key_format
key_tree_stuck old new e s = made_stuck (pair (table w32 tree_rows tree_type) (pair (table w32 chains_rows chains_type) (pair (raw 16) (raw 32)))) (λ x. record { tree = x.0; chains = x.1.0; identifier = x.1.1.0; root = x.1.1.1 }) (λ key. Some (key.tree, (key.chains, (key.identifier, key.root)))) old new e (pair_stuck (table w32 tree_rows tree_type) (pair (table w32 chains_rows chains_type) (pair (raw 16) (raw 32))) old new e tree_exact three_exact three_inhabited s)

pub key_chains_stuck : (old one new : Cursor) (e : Stuck) → IsFound (table w32 tree_rows tree_type) old one (NothingTold tt) → IsStuck (table w32 chains_rows chains_type) one e new → IsStuck public_key_format old e new
unfolding public_key_format
key_chains_stuck old one new e p s =
    made_stuck (pair (table w32 tree_rows tree_type) (pair (table w32 chains_rows chains_type) (pair (raw 16) (raw 32)))) (λ x. record { tree = x.0; chains = x.1.0; identifier = x.1.1.0; root = x.1.1.1 }) (λ key. Some (key.tree, (key.chains, (key.identifier, key.root)))) old new e (pair_stuck_later (table w32 tree_rows tree_type) (pair (table w32 chains_rows chains_type) (pair (raw 16) (raw 32))) (NothingTold tt) old one new e tree_exact p
    (pair_stuck (table w32 chains_rows chains_type) (pair (raw 16) (raw 32)) one new e chain_exact two_exact two_inhabited s))

pub key_identifier_stuck : (old one two new : Cursor) (e : Stuck) → IsFound (table w32 tree_rows tree_type) old one (NothingTold tt) → IsFound (table w32 chains_rows chains_type) one two (NothingTold tt) → IsStuck (raw 16) two e new → IsStuck public_key_format old e new
unfolding public_key_format
key_identifier_stuck old one two new e p q s =
    made_stuck (pair (table w32 tree_rows tree_type) (pair (table w32 chains_rows chains_type) (pair (raw 16) (raw 32)))) (λ x. record { tree = x.0; chains = x.1.0; identifier = x.1.1.0; root = x.1.1.1 }) (λ key. Some (key.tree, (key.chains, (key.identifier, key.root)))) old new e (pair_stuck_later (table w32 tree_rows tree_type) (pair (table w32 chains_rows chains_type) (pair (raw 16) (raw 32))) (NothingTold tt) old one new e tree_exact p
    (pair_stuck_later (table w32 chains_rows chains_type) (pair (raw 16) (raw 32)) (NothingTold tt) one two new e chain_exact q
    (pair_stuck (raw 16) (raw 32) two new e (raw_exact 16) (raw_exact 32) (some.raw_inhabited 32) s)))

pub key_surveys : (old one two three new : Cursor) (r : Result (Unit {0}) Stuck) → IsFound (table w32 tree_rows tree_type) old one (NothingTold tt) → IsFound (table w32 chains_rows chains_type) one two (NothingTold tt) → IsFound (raw 16) two three (NothingTold tt)
    → Surveys NothingTold (raw 32) three r new → Surveys NothingTold public_key_format old r new
unfolding public_key_format
key_surveys old one two three new r p q t s =
    made_surveys (pair (table w32 tree_rows tree_type) (pair (table w32 chains_rows chains_type) (pair (raw 16) (raw 32)))) (λ x. record { tree = x.0; chains = x.1.0; identifier = x.1.1.0; root = x.1.1.1 }) (λ key. Some (key.tree, (key.chains, (key.identifier, key.root)))) old new r (pair_surveys (table w32 tree_rows tree_type) (pair (table w32 chains_rows chains_type) (pair (raw 16) (raw 32))) (NothingTold tt) old one new r tree_exact p
    (pair_surveys (table w32 chains_rows chains_type) (pair (raw 16) (raw 32)) (NothingTold tt) one two new r chain_exact q
    (pair_surveys (raw 16) (raw 32) (NothingTold tt) two three new r (raw_exact 16) t s)))

-- ---- what an order does

pub differing_surveys : (one : Trust) (old middle new : Cursor) (r : Result (Unit {0}) Stuck) → IsFound trust_format old middle (IsTold one) → Surveys NothingTold (listed w8 (other_rows one) trust_byte) middle r new → Surveys NothingTold differing_trusts old r new
differing_surveys one old middle new r p s =
    made_surveys (both trust_format (λ one. listed w8 (other_rows one) trust_byte)) (λ x. record { one = x.0; two = x.1 }) (λ x. Some (x.one, x.two)) old new r (both_surveys trust_format (λ one. listed w8 (other_rows one) trust_byte) (IsTold one) old middle new r trust_exact p (rw p.told s))

pub differing_stuck : (old new : Cursor) (e : Stuck) → IsStuck trust_format old e new → IsStuck differing_trusts old e new
differing_stuck old new e s =
    made_stuck (both trust_format (λ one. listed w8 (other_rows one) trust_byte)) (λ x. record { one = x.0; two = x.1 }) (λ x. Some (x.one, x.two)) old new e (both_stuck trust_format (λ one. listed w8 (other_rows one) trust_byte) old new e trust_exact (λ one h. part.other_exact one) (λ one h. part.other_inhabited one) s)

-- one trust stands for two
pub one_found : (one : Trust) (old new : Cursor) → IsFound trust_format old new (IsTold one) → IsFound (given_trusts false) old new (NothingTold tt)
one_found one old new p = record { bytes = p.bytes; value = equal_trusts p.value; reads = rw p.reads refl; told = tt }

pub one_stuck : (old new : Cursor) (e : Stuck) → IsStuck trust_format old e new → IsStuck (given_trusts false) old e new
one_stuck old new e s =
    made_stuck (both trust_format (λ trust. nothing (equal_trusts trust))) (λ x. x.1) (λ x. Some (x.one, x)) old new e (both_stuck trust_format (λ trust. nothing (equal_trusts trust)) old new e trust_exact (λ trust h. nothing_exact) (λ trust h. some.nothing_inhabited) s)

-- the trusts and the code
rest_exact : (differs : Bool) → IsExact (pair (given_trusts differs) (sized (between w32 0 32768)))
rest_exact differs = pair_exact (given_exact differs) part.code_exact

rest_inhabited : (differs : Bool) → IsInhabited (pair (given_trusts differs) (sized (between w32 0 32768)))
rest_inhabited differs = some.pair_inhabited (part.given_inhabited differs) part.code_inhabited

pub version_stuck : (differs : Bool) (old new : Cursor) (e : Stuck) → IsStuck (number w32) old e new → IsStuck (payload_format differs) old e new
unfolding payload_format
version_stuck differs old new e s = made_stuck (pair (number w32) (pair (given_trusts differs) (sized (between w32 0 32768)))) (λ x. record { version = x.0; trust = x.1.0; code = x.1.1 }) (λ x. Some (x.version, (x.trust, x.code))) old new e (pair_stuck (number w32) (pair (given_trusts differs) (sized (between w32 0 32768))) old new e (number_exact wide32) (rest_exact differs) (rest_inhabited differs) s)

pub given_stuck : (differs : Bool) (old middle new : Cursor) (e : Stuck) → IsFound (number w32) old middle (NothingTold tt) → IsStuck (given_trusts differs) middle e new → IsStuck (payload_format differs) old e new
unfolding payload_format
given_stuck differs old middle new e p s =
    made_stuck (pair (number w32) (pair (given_trusts differs) (sized (between w32 0 32768)))) (λ x. record { version = x.0; trust = x.1.0; code = x.1.1 }) (λ x. Some (x.version, (x.trust, x.code))) old new e (pair_stuck_later (number w32) (pair (given_trusts differs) (sized (between w32 0 32768))) (NothingTold tt) old middle new e (number_exact wide32) p
    (pair_stuck (given_trusts differs) (sized (between w32 0 32768)) middle new e (given_exact differs) part.code_exact part.code_inhabited s))

pub payload_surveys : (differs : Bool) (old one two new : Cursor) (r : Result (Unit {0}) Stuck) → IsFound (number w32) old one (NothingTold tt) → IsFound (given_trusts differs) one two (NothingTold tt) → Surveys NothingTold (sized (between w32 0 32768)) two r new → Surveys NothingTold (payload_format differs) old r new
unfolding payload_format
payload_surveys differs old one two new r p q s =
    made_surveys (pair (number w32) (pair (given_trusts differs) (sized (between w32 0 32768)))) (λ x. record { version = x.0; trust = x.1.0; code = x.1.1 }) (λ x. Some (x.version, (x.trust, x.code))) old new r (pair_surveys (number w32) (pair (given_trusts differs) (sized (between w32 0 32768))) (NothingTold tt) old one new r (number_exact wide32) p
    (pair_surveys (given_trusts differs) (sized (between w32 0 32768)) (NothingTold tt) one two new r (given_exact differs) q s))

pub owner_stuck : (differs : Bool) (old new : Cursor) (e : Stuck) → IsStuck public_key_format old e new → IsStuck (act_by kind.Establish differs) old e new
owner_stuck differs old new e s = made_stuck (pair public_key_format (given_trusts differs)) (λ x. Establish x.0 x.1) establish_in old new e (pair_stuck public_key_format (given_trusts differs) old new e public_key_exact (given_exact differs) (part.given_inhabited differs) s)

pub establish_surveys : (differs : Bool) (old middle new : Cursor) (r : Result (Unit {0}) Stuck) → IsFound public_key_format old middle (NothingTold tt) → Surveys NothingTold (given_trusts differs) middle r new → Surveys NothingTold (act_by kind.Establish differs) old r new
establish_surveys differs old middle new r p s = made_surveys (pair public_key_format (given_trusts differs)) (λ x. Establish x.0 x.1) establish_in old new r (pair_surveys public_key_format (given_trusts differs) (NothingTold tt) old middle new r public_key_exact p s)

-- by the kind of the order
pub act_surrender : (differs : Bool) (old : Cursor) → Surveys NothingTold (act_by kind.Surrender differs) old (Ok tt) old
act_surrender differs old = record { bytes = refl; value = Surrender; reads = refl; told = tt }

pub act_load : (differs : Bool) (old new : Cursor) (r : Result (Unit {0}) Stuck) → Surveys NothingTold (payload_format differs) old r new → Surveys NothingTold (act_by kind.Load differs) old r new
act_load differs old new r s = made_surveys (payload_format differs) Load load_in old new r s

pub act_emergency : (differs : Bool) (old new : Cursor) (r : Result (Unit {0}) Stuck) → Surveys NothingTold (payload_format differs) old r new → Surveys NothingTold (act_by kind.Emergency differs) old r new
act_emergency differs old new r s = made_surveys (payload_format differs) Emergency emergency_in old new r s

pub act_new_key : (differs : Bool) (old new : Cursor) (r : Result (Unit {0}) Stuck) → Surveys NothingTold key_kind_format old r new → Surveys NothingTold (act_by kind.NewKey differs) old r new
act_new_key differs old new r s = made_surveys key_kind_format NewKey made_in old new r s

-- ---- targets

pub named_surveys : (n : ℕ) (old middle new : Cursor) (r : Result (Unit {0}) Stuck) → IsFound (between w8 1 3) old middle (IsTold n) → Surveys NothingTold (raw 32) middle r new → Surveys NothingTold (pair (between w8 1 3) (raw 32)) old r new
named_surveys n old middle new r p s = pair_surveys (between w8 1 3) (raw 32) (IsTold n) old middle new r part.one_exact p s

pub named_stuck : (old new : Cursor) (e : Stuck) → IsStuck (between w8 1 3) old e new → IsStuck (pair (between w8 1 3) (raw 32)) old e new
named_stuck old new e s = pair_stuck (between w8 1 3) (raw 32) old new e part.one_exact (raw_exact 32) (some.raw_inhabited 32) s

abbrev pub tag_numbered : ℕ → TargetTag
tag_numbered n = if n == 1 then serial_tag else if n == 2 then length_tag else if n == 3 then owner_tag else code_tag

pub tags_are : IsTableOf (row_of target_rows) 1 4 tag_numbered
tags_are = record { inside = λ n m e. grind arith; outside = λ n e. grind arith }

-- what follows a tag was looked over
tagged : (tag : TargetTag) (n : ℕ) (old middle new : Cursor) (r : Result (Unit {0}) Stuck) → tag_numbered n ≡ tag → IsFound (between w8 1 4) old middle (IsTold n) → Surveys NothingTold (target_by tag) middle r new → Surveys NothingTold target_format old r new
unfolding target_format
tagged tag n old middle new r is p s =
    let found : IsFound (table w8 target_rows target_byte) old middle (IsTold (tag_numbered n)) = table_found w8 target_byte (λ a. Unit {0}) (row_of target_rows) 1 4 n tag_numbered old middle tags_are p in
    made_surveys (both (table w8 target_rows target_byte) target_by) (λ x. x.1) (λ x. Some (target_tag x, x)) old new r (both_surveys (table w8 target_rows target_byte) target_by (IsTold (tag_numbered n)) old middle new r (table_exact wide8 target_table) found (rw (found.told ∙ is) s))

pub serial_surveys : (n : ℕ) (old middle new : Cursor) (r : Result (Unit {0}) Stuck) → n ≡ 1 → IsFound (between w8 1 4) old middle (IsTold n) → Surveys NothingTold (raw 16) middle r new → Surveys NothingTold target_format old r new
serial_surveys n old middle new r is p s = tagged serial_tag n old middle new r (ap tag_numbered is) p (made_surveys (raw 16) Serial demanded_serial middle new r s)

pub length_surveys : (n : ℕ) (old middle new : Cursor) (r : Result (Unit {0}) Stuck) → n ≡ 2 → IsFound (between w8 1 4) old middle (IsTold n) → Surveys NothingTold (number w32) middle r new → Surveys NothingTold target_format old r new
length_surveys n old middle new r is p s = tagged length_tag n old middle new r (ap tag_numbered is) p (made_surveys (number w32) Length demanded_length middle new r s)

pub hashed_surveys : (n : ℕ) (old middle new : Cursor) (r : Result (Unit {0}) Stuck) → 3 ≤ n → n ≤ 4 → IsFound (between w8 1 4) old middle (IsTold n) → Surveys NothingTold (pair (between w8 1 3) (raw 32)) middle r new → Surveys NothingTold target_format old r new
hashed_surveys n old middle new r low high p s =
    elim (cases_lt n 4) [
      | inl lt ↦ (let is : n ≡ 3 = omega (arith, low, lt) in tagged owner_tag n old middle new r (ap tag_numbered is) p (made_surveys (pair (between w8 1 3) (raw 32)) (λ x. Owner x.0 x.1) demanded_owner middle new r s))
      | inr le ↦ (let is : n ≡ 4 = omega (arith, high, le) in tagged code_tag n old middle new r (ap tag_numbered is) p (made_surveys (pair (between w8 1 3) (raw 32)) (λ x. Code x.0 x.1) demanded_code middle new r s))
    ]

pub tag_stuck : (old new : Cursor) (e : Stuck) → IsStuck (between w8 1 4) old e new → IsStuck target_format old e new
unfolding target_format
tag_stuck old new e s =
    made_stuck (both (table w8 target_rows target_byte) target_by) (λ x. x.1) (λ x. Some (target_tag x, x)) old new e (both_stuck (table w8 target_rows target_byte) target_by old new e (table_exact wide8 target_table) (λ tag h. target_by-exact tag) (λ tag h. part.target_by-inhabited tag)
    (table_stuck w8 target_byte (λ a. Unit {0}) (row_of target_rows) 1 4 tag_numbered old new e tags_are s))

-- ---- lists

pub led_stuck : {B : Type 0} (f : Format ℕ) (g : ℕ → Format (List B)) (old new : Cursor) (e : Stuck) → IsExact f → ((n : ℕ) → f.Allowed n → IsExact (g n)) → ((n : ℕ) → f.Allowed n → IsInhabited (g n)) → IsStuck f old e new → IsStuck (led f length g) old e new
led_stuck f g old new e exact following inhabited s = made_stuck (both f g) (λ x. x.1) (λ x. Some (length x, x)) old new e (both_stuck f g old new e exact following inhabited s)

pub led_surveys : {B : Type 0} (f : Format ℕ) (g : ℕ → Format (List B)) (n : ℕ) (old middle new : Cursor) (r : Result (Unit {0}) Stuck) → IsExact f → IsFound f old middle (IsTold n) → Surveys NothingTold (g n) middle r new → Surveys NothingTold (led f length g) old r new
led_surveys f g n old middle new r exact p s = made_surveys (both f g) (λ x. x.1) (λ x. Some (length x, x)) old new r (both_surveys f g (IsTold n) old middle new r exact p (rw p.told s))

-- ---- targets and their number

pub targets_led : (n : ℕ) (old middle new : Cursor) (r : Result (Unit {0}) Stuck) → IsFound (between w8 0 8) old middle (IsTold n) → Surveys NothingTold (times n target_format) middle r new → Surveys NothingTold (counted (between w8 0 8) target_format) old r new
targets_led n old middle new r p s = led_surveys (between w8 0 8) (λ n. times n target_format) n old middle new r (between_exact wide8 (lit< tt)) p s

pub count_stuck : (old new : Cursor) (e : Stuck) → IsStuck (between w8 0 8) old e new → IsStuck (counted (between w8 0 8) target_format) old e new
count_stuck old new e s = led_stuck (between w8 0 8) (λ n. times n target_format) old new e (between_exact wide8 (lit< tt)) (λ n h. times_exact n target_exact) (λ n h. some.times_inhabited n part.target_inhabited) s

-- ---- the signed part

pub form_stuck : (old new : Cursor) (e : Stuck) → IsStuck (listed w8 form_rows form_byte) old e new → IsStuck body_format old e new
unfolding body_format
form_stuck old new e s = made_stuck (both (listed w8 form_rows form_byte) body_by) (λ x. x.1) (λ x. Some (form_of x.act, x)) old new e (both_stuck (listed w8 form_rows form_byte) body_by old new e part.form_exact (λ f h. body_by-exact f) (λ f h. part.body_by-inhabited f) s)

pub body_surveys : (form : OrderForm) (old middle new : Cursor) (r : Result Heading Stuck) → IsFound (listed w8 form_rows form_byte) old middle (IsTold form) → Surveys IsHeadingOf (body_by form) middle r new → Surveys IsHeadingOf body_format old r new
unfolding body_format
body_surveys form old middle new (Ok heading) p s =
    let q : IsFound (body_by p.value) middle new (IsHeadingOf heading) = rw p.told s in
    let found : IsFound (both (listed w8 form_rows form_byte) body_by) old new (λ b. IsHeadingOf heading b.1) = both_found (listed w8 form_rows form_byte) body_by (IsTold form) (IsHeadingOf heading) (λ b. IsHeadingOf heading b.1) old middle new p q q.told in
    made_found (both (listed w8 form_rows form_byte) body_by) (λ x. x.1) (λ x. Some (form_of x.act, x)) (λ b. IsHeadingOf heading b.1) (IsHeadingOf heading) old new found found.told
body_surveys form old middle new (Err e) p s =
    made_stuck (both (listed w8 form_rows form_byte) body_by) (λ x. x.1) (λ x. Some (form_of x.act, x)) old new e (both_stuck_later (listed w8 form_rows form_byte) body_by (IsTold form) old middle new e part.form_exact p (rw p.told s))

pub layer_stuck : (form : OrderForm) (old new : Cursor) (e : Stuck) → IsStuck (between w8 (least_layer form.kind) 3) old e new → IsStuck (body_by form) old e new
layer_stuck form old new e s =
    made_stuck (pair (between w8 (least_layer form.kind) 3) (pair (counted (between w8 0 8) target_format) (act_by form.kind form.differs))) (λ x. record { layer = x.0; targets = x.1.0; act = x.1.1 }) (λ x. Some (x.layer, (x.targets, x.act))) old new e (pair_stuck (between w8 (least_layer form.kind) 3) (pair (counted (between w8 0 8) target_format) (act_by form.kind form.differs)) old new e (part.layer_exact form.kind) (part.after_layer_exact form) (part.after_layer_inhabited form) s)

pub targets_stuck : (form : OrderForm) (layer : ℕ) (old middle new : Cursor) (e : Stuck) → IsFound (between w8 (least_layer form.kind) 3) old middle (IsTold layer) → IsStuck (counted (between w8 0 8) target_format) middle e new → IsStuck (body_by form) old e new
targets_stuck form layer old middle new e p s =
    made_stuck (pair (between w8 (least_layer form.kind) 3) (pair (counted (between w8 0 8) target_format) (act_by form.kind form.differs))) (λ x. record { layer = x.0; targets = x.1.0; act = x.1.1 }) (λ x. Some (x.layer, (x.targets, x.act))) old new e (pair_stuck_later (between w8 (least_layer form.kind) 3) (pair (counted (between w8 0 8) target_format) (act_by form.kind form.differs)) (IsTold layer) old middle new e (part.layer_exact form.kind) p
    (pair_stuck (counted (between w8 0 8) target_format) (act_by form.kind form.differs) middle new e part.targets_exact (act_by-exact form.kind form.differs) (part.act_by-inhabited form.kind form.differs) s))

pub act_stuck : (form : OrderForm) (layer : ℕ) (old one two new : Cursor) (e : Stuck) → IsFound (between w8 (least_layer form.kind) 3) old one (IsTold layer) → IsFound (counted (between w8 0 8) target_format) one two (NothingTold tt)
    → IsStuck (act_by form.kind form.differs) two e new → IsStuck (body_by form) old e new
act_stuck form layer old one two new e p q s =
    made_stuck (pair (between w8 (least_layer form.kind) 3) (pair (counted (between w8 0 8) target_format) (act_by form.kind form.differs))) (λ x. record { layer = x.0; targets = x.1.0; act = x.1.1 }) (λ x. Some (x.layer, (x.targets, x.act))) old new e (pair_stuck_later (between w8 (least_layer form.kind) 3) (pair (counted (between w8 0 8) target_format) (act_by form.kind form.differs)) (IsTold layer) old one new e (part.layer_exact form.kind) p
    (pair_stuck_later (counted (between w8 0 8) target_format) (act_by form.kind form.differs) (NothingTold tt) one two new e part.targets_exact q s))

-- what an order of a kind does is of that kind
act_of_kind : (order : OrderKind) (differs : Bool) (act : Act) → (act_by order differs).Allowed act → kind_of act ≡ order
act_of_kind kind.Establish differs act h = grind arith
act_of_kind kind.Surrender differs act h = grind arith
act_of_kind kind.Load differs act h = grind arith
act_of_kind kind.Emergency differs act h = grind arith
act_of_kind kind.NewKey differs act h = grind arith

act_found : (order : OrderKind) (differs : Bool) (old new : Cursor) → (p : IsFound (act_by order differs) old new (NothingTold tt)) → kind_of p.value ≡ order
act_found order differs old new p =
    act_of_kind order differs p.value ((act_by-exact order differs).found old.bytes.now old.offset p.value new.offset (stands old) p.reads).allowed

pub body_found : (form : OrderForm) (layer : ℕ) (old one two new : Cursor) → layer ≤ 3 → IsFound (between w8 (least_layer form.kind) 3) old one (IsTold layer) → IsFound (counted (between w8 0 8) target_format) one two (NothingTold tt)
    → IsFound (act_by form.kind form.differs) two new (NothingTold tt) → IsFound (body_by form) old new (IsHeadingOf (record { kind = form.kind; layer = layer }))
body_found form layer old one two new most p q t =
    let where_act = act_found form.kind form.differs two new t in
    record {
      bytes = t.bytes ∙ (q.bytes ∙ p.bytes);
      value = record { layer = p.value; targets = q.value; act = t.value };
      reads = rw (p.reads, ← p.bytes, q.reads, ← q.bytes, t.reads) refl;
      told = record { kind = where_act; layer = p.told; most = most };
    }

-- ---- the signatures

pub climb_stuck : (climb : Climb) (old new : Cursor) (e : Stuck) → IsStuck (between w8 (climb.below + 1) (4 - climb.left)) old e new → IsStuck (countersignature_format climb) old e new
climb_stuck climb old new e s =
    made_stuck (pair (between w8 (climb.below + 1) (4 - climb.left)) sized_signature_format) (λ x. record { layer = x.0; signature = x.1 }) (λ x. Some (x.layer, x.signature)) old new e (pair_stuck (between w8 (climb.below + 1) (4 - climb.left)) sized_signature_format old new e (between_exact wide8 (below_four climb.left)) sized_signature_exact part.signature_inhabited s)

pub climb_signature_stuck : (climb : Climb) (layer : ℕ) (old middle new : Cursor) (e : Stuck) → IsFound (between w8 (climb.below + 1) (4 - climb.left)) old middle (IsTold layer) → IsStuck sized_signature_format middle e new → IsStuck (countersignature_format climb) old e new
climb_signature_stuck climb layer old middle new e p s =
    made_stuck (pair (between w8 (climb.below + 1) (4 - climb.left)) sized_signature_format) (λ x. record { layer = x.0; signature = x.1 }) (λ x. Some (x.layer, x.signature)) old new e (pair_stuck_later (between w8 (climb.below + 1) (4 - climb.left)) sized_signature_format (IsTold layer) old middle new e (between_exact wide8 (below_four climb.left)) p s)

pub climb_found : (climb : Climb) (layer : ℕ) (old middle new : Cursor) → IsFound (between w8 (climb.below + 1) (4 - climb.left)) old middle (IsTold layer) → IsFound sized_signature_format middle new (NothingTold tt) → IsFound (countersignature_format climb) old new (IsLayerOf layer)
climb_found climb layer old middle new p q = record {
  bytes = q.bytes ∙ p.bytes;
  value = record { layer = p.value; signature = q.value };
  reads = rw (p.reads, ← p.bytes, q.reads) refl;
  told = p.told;
}

pub above_stuck : (order : OrderKind) (layer : ℕ) (old new : Cursor) (e : Stuck) → layer ≤ 3 → IsStuck (between w8 0 (countersignature_limit order layer)) old e new → IsStuck (countersignatures_above order layer) old e new
above_stuck order layer old new e most s =
    led_stuck (between w8 0 (countersignature_limit order layer)) (λ n. items countersignature_format climb_after n (record { below = layer; left = n })) old new e (between_exact wide8 (most_small order layer))
    (λ n h. items_exact climb_after n (record { below = layer; left = n }) countersignature_exact)
    (λ n h. part.climb_inhabited n (record { below = layer; left = n }) (part.begins_climb order layer n most h.1)) s

pub above_surveys : (order : OrderKind) (layer n : ℕ) (old middle new : Cursor) (r : Result (Unit {0}) Stuck) → IsFound (between w8 0 (countersignature_limit order layer)) old middle (IsTold n)
    → Surveys NothingTold (items countersignature_format climb_after n (record { below = layer; left = n })) middle r new → Surveys NothingTold (countersignatures_above order layer) old r new
above_surveys order layer n old middle new r p s =
    led_surveys (between w8 0 (countersignature_limit order layer)) (λ n. items countersignature_format climb_after n (record { below = layer; left = n })) n old middle new r (between_exact wide8 (most_small order layer)) p s

-- ---- orders

after_body_exact : (body : Body) → IsExact (pair sized_signature_format (countersignatures_format body))
after_body_exact body = pair_exact sized_signature_exact (countersignatures_exact body)

after_body_inhabited : (body : Body) → IsInhabited (pair sized_signature_format (countersignatures_format body))
after_body_inhabited body = some.pair_inhabited part.signature_inhabited (part.none_inhabited body)

pub order_stuck : (old new : Cursor) (e : Stuck) → IsStuck body_format old e new → IsStuck order_format old e new
unfolding order_format
order_stuck old new e s =
    made_stuck (both body_format (λ body. pair sized_signature_format (countersignatures_format body))) (λ x. record { layer = x.0.layer; targets = x.0.targets; act = x.0.act; signature = x.1.0; countersignatures = x.1.1 }) (λ x. Some (body_of x, (x.signature, x.countersignatures))) old new e (both_stuck body_format (λ body. pair sized_signature_format (countersignatures_format body)) old new e body_exact (λ body h. after_body_exact body) (λ body h. after_body_inhabited body) s)

pub signature_stuck : (heading : Heading) (old middle new : Cursor) (e : Stuck) → IsFound body_format old middle (IsHeadingOf heading) → IsStuck sized_signature_format middle e new → IsStuck order_format old e new
unfolding order_format
signature_stuck heading old middle new e p s =
    made_stuck (both body_format (λ body. pair sized_signature_format (countersignatures_format body))) (λ x. record { layer = x.0.layer; targets = x.0.targets; act = x.0.act; signature = x.1.0; countersignatures = x.1.1 }) (λ x. Some (body_of x, (x.signature, x.countersignatures))) old new e (both_stuck_later body_format (λ body. pair sized_signature_format (countersignatures_format body)) (IsHeadingOf heading) old middle new e body_exact p
    (pair_stuck sized_signature_format (countersignatures_format p.value) middle new e sized_signature_exact (countersignatures_exact p.value) (part.none_inhabited p.value) s))

pub order_surveys : (heading : Heading) (old one two new : Cursor) (r : Result (Unit {0}) Stuck) → IsFound body_format old one (IsHeadingOf heading) → IsFound sized_signature_format one two (NothingTold tt)
    → Surveys NothingTold (countersignatures_above heading.kind heading.layer) two r new → Surveys NothingTold order_format old r new
unfolding order_format
order_surveys heading old one two new r p q s =
    let above : Surveys NothingTold (countersignatures_format p.value) two r new = rw (part.above_is p.value, p.told.kind, p.told.layer) s in
    made_surveys (both body_format (λ body. pair sized_signature_format (countersignatures_format body))) (λ x. record { layer = x.0.layer; targets = x.0.targets; act = x.0.act; signature = x.1.0; countersignatures = x.1.1 }) (λ x. Some (body_of x, (x.signature, x.countersignatures))) old new r (both_surveys body_format (λ body. pair sized_signature_format (countersignatures_format body)) (IsHeadingOf heading) old one new r body_exact p
    (pair_surveys sized_signature_format (countersignatures_format p.value) (NothingTold tt) one two new r sized_signature_exact q above))
