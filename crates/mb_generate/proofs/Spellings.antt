-- The orders of a workload are spelled in bytes, and in fewer than 65,536 of them.
use Rattle.std.proofs.Common.{◌≡◌, ℕ, zero, suc, ◌+◌, ◌*◌, ◌%◌, ◌<◌, ◌≤◌, Bool, true, false, List, [], ◌∷◌, ◌++◌, length, map, take, sym, subst, arith, length-append}
use Rattle.std.specs.Prelude.{All, flat_map, if◌then◌else◌, ◌==◌}
use Rattle.std.specs.Int.{Width, w8, w16, w32, byte_len, byte_at, bytes_high_first, to_be_bytes}
use Rattle.std.proofs.lemmas.List.{length-map, length-take}
use Rattle.std.proofs.lemmas.List.Elements.{All-nil, All-cons, All-head, All-tail, All-append, All-take, All-map, All-weaker, All-from_recursion}
use Rattle.sha2.specs.Sha256.{sha256, digest_bytes}
use Rattle.mb_format.specs.Combinators.{number_bytes, items}
use Rattle.mb_model.specs.declared.key.KeySeed.{KeySeed}
use Rattle.mb_model.specs.declared.key.Trust.TheVariants.{Countersigned}
use Rattle.mb_model.specs.declared.order.KeyKind.TheVariants as kinds
use Rattle.mb_model.specs.declared.order.OrderKind.TheVariants as kind
use Rattle.mb_model.specs.declared.order.Act.{Act}
use Rattle.mb_model.specs.declared.order.Act.TheVariants as act
use Rattle.mb_model.specs.declared.order.Target.TheVariants as target
use Rattle.mb_model.specs.declared.order.Countersignature.{Countersignature}
use Rattle.mb_model.specs.declared.order.Order.{Order}
use Rattle.mb_model.specs.signatures.Winternitz.{chain_step, value_after_count}
use Rattle.mb_model.specs.signatures.Merkle.{leaf_node, inner_node}
use Rattle.mb_model.specs.signatures.Signing.{private_value, randomizer_of, node_above, node_of, public_of, signed_values, path_from, signature_of}
use Rattle.mb_model.specs.owners.Born.{officer_key}
use Rattle.mb_model.specs.records.KeyFormat.{public_key_format}
use Rattle.mb_model.specs.owners.Layers.{equal_trusts}
use Rattle.mb_model.specs.records.LayerFormat.{trust_format}
use Rattle.mb_model.specs.records.EntryFormat.{key_kind_format}
use Rattle.mb_model.specs.owners.Rules.{kind_of}
use Rattle.mb_model.specs.records.OrderFormat.{form_byte, form_of, differs_in, target_format, payload_format, act_by, body_format, order_body, sized_signature_format, Climb, countersignature_format, climb_after, countersignatures_format, order_format}
use Rattle.mb_model.specs.chains.Script.{with_before}
use Rattle.mb_model_commands.specs.Workload.{DrawnBytes, DrawnCode, DrawnValue, DrawnRound, RoundDraws, Draws, Plan, plan, plan_payload, key_of_officer, first_plans, round_plan, plans, unsigned_order, countersignature_by, signed_plan, signed_orders}
use Rattle.mb_generate.specs.Drawing.{AreDraws}
use Rattle.mb_generate.proofs.Drawings.{each_drawn}

-- ---- bytes

abbrev pub is_byte : ℕ → Type 0
is_byte byte = byte < 256

-- these are bytes, and at most so many
pub record BytesUpTo (most : ℕ) (bytes : List ℕ) : Type 0 where
  pub each : All is_byte bytes
  pub few : length bytes ≤ most

none : BytesUpTo 0 []
none = record { each = All-nil is_byte; few = omega arith }

joined : {m n : ℕ} {a b : List ℕ} → BytesUpTo m a → BytesUpTo n b → BytesUpTo (m + n) (a ++ b)
joined {m} {n} {a} {b} first second = record {
  each = All-append is_byte a b first.each second.each;
  few = omega (arith, length-append a b, first.few, second.few);
}

wider : {m n : ℕ} {bytes : List ℕ} → BytesUpTo m bytes → m ≤ n → BytesUpTo n bytes
wider is le = record { each = is.each; few = omega (arith, is.few, le) }

byte_at-small : (i n : ℕ) → byte_at i n < 256
byte_at-small zero n = omega arith
byte_at-small (suc i) n = omega arith

high_first : (k n : ℕ) → BytesUpTo k (bytes_high_first k n)
high_first zero n = none
high_first (suc k) n =
    let remaining = high_first k n in
    record {
      each = All-cons is_byte (byte_at k n) (bytes_high_first k n) (byte_at-small k n) remaining.each;
      few = omega (arith, remaining.few);
    }

-- a number
numbered : (w : Width) (n : ℕ) → BytesUpTo (byte_len w) (to_be_bytes w n)
numbered w n = high_first (byte_len w) n

of_words : (words : List ℕ) → All is_byte (flat_map (to_be_bytes w32) words)
of_words [] = All-nil is_byte
of_words (word ∷ words) = All-append is_byte (to_be_bytes w32 word) (flat_map (to_be_bytes w32) words) (numbered w32 word).each (of_words words)

taken : (n : ℕ) (bytes : List ℕ) → All is_byte bytes → BytesUpTo n (take n bytes)
taken n bytes are = record { each = All-take is_byte n bytes are; few = omega (arith, length-take n bytes) }

-- ---- hashes

digested : (h : List ℕ) (n : ℕ) → BytesUpTo (n * 4) (digest_bytes h n)
unfolding digest_bytes
digested h zero = none
digested h (suc n) = wider (joined (digested h n) (numbered w32 _)) (omega arith)

hashed : (message : List ℕ) → BytesUpTo 32 (sha256 message)
unfolding sha256
hashed message = digested _ 8

-- ---- keys and signatures

node_bytes : (key : KeySeed) (n r : ℕ) → BytesUpTo 32 (node_above key n r)
unfolding node_above leaf_node inner_node
node_bytes key zero r = hashed _
node_bytes key (suc n) r = hashed _

stepped : (id : List ℕ) (q i a n : ℕ) (x : List ℕ) → BytesUpTo 32 x → BytesUpTo 32 (value_after_count id q i a n x)
unfolding value_after_count chain_step
stepped id q i a zero x is = is
stepped id q i a (suc n) x is = hashed _

private_bytes : (key : KeySeed) (q i : ℕ) → BytesUpTo 32 (private_value key q i)
unfolding private_value
private_bytes key q i = hashed _

values_bytes : (key : KeySeed) (q : ℕ) (digits : List ℕ) (n : ℕ) → BytesUpTo (32 * n) (signed_values key q digits n)
unfolding signed_values
values_bytes key q digits zero = none
values_bytes key q digits (suc n) = wider (joined (values_bytes key q digits n) (stepped key.identifier q n 0 _ (private_value key q n) (private_bytes key q n))) (omega arith)

path_bytes : (key : KeySeed) (r n : ℕ) → BytesUpTo (32 * n) (path_from key r n)
unfolding path_from node_of
path_bytes key r zero = none
path_bytes key r (suc n) = wider (joined (path_bytes key r n) (node_bytes key _ _)) (omega arith)

-- a signature
signature_bytes : (key : KeySeed) (q : ℕ) (text : List ℕ) → BytesUpTo 2348 (signature_of key q text)
unfolding signature_of randomizer_of
signature_bytes key q text =
    joined (joined (joined (joined (joined (numbered w32 q) (numbered w32 3)) (private_bytes key q 0xfffd)) (values_bytes key q _ 67)) (numbered w32 5)) (path_bytes key (32 + q) 5)

identifier_bytes : (noise : List ℕ) → BytesUpTo 16 (officer_key noise).identifier
unfolding officer_key
identifier_bytes noise = taken 16 _ (hashed _).each

public_spelled : (key : KeySeed) → BytesUpTo 16 key.identifier → BytesUpTo 56 (public_key_format.spelling (public_of key))
unfolding public_key_format public_of node_of number_bytes
public_spelled key is = joined (numbered w32 5) (joined (numbered w32 3) (joined is (node_bytes key 5 1)))

-- ---- orders

body_spelled : (layer n : ℕ) (what : Act) → BytesUpTo 32778 ((act_by (kind_of what) (differs_in what)).spelling what)
    → BytesUpTo 33000 (body_format.spelling (record { layer = layer; targets = target.Length n ∷ []; act = what }))
unfolding body_format target_format items number_bytes
body_spelled layer n what done =
    let demanded = joined (numbered w8 1) (joined (joined (numbered w8 2) (numbered w32 n)) none) in
    let remaining = joined (numbered w8 layer) (joined demanded done) in
    wider (joined (numbered w8 (form_byte (form_of what))) remaining) (omega arith)

sized_spelled : (signature : List ℕ) → BytesUpTo 2348 signature → BytesUpTo 2350 (sized_signature_format.spelling signature)
unfolding sized_signature_format number_bytes
sized_spelled signature is = joined (numbered w16 (length signature)) is

countersignatures_spelled : (climb : Climb) (list : List Countersignature) → All (λ c. BytesUpTo 2348 c.signature) list
    → BytesUpTo (2351 * length list) ((items countersignature_format climb_after (length list) climb).spelling list)
unfolding items number_bytes
countersignatures_spelled climb [] all = none
countersignatures_spelled climb (c ∷ list) all =
    let is_spelled = λ (other : Countersignature). BytesUpTo 2348 other.signature in
    let first = joined (numbered w8 c.layer) (sized_spelled c.signature (All-head is_spelled c list all)) in
    wider (joined first (countersignatures_spelled (climb_after climb c) list (All-tail is_spelled c list all))) (omega arith)

-- what a planned order does is spelled in bytes, and at most two officers countersign it
record CanBeSigned (planned : Plan) : Type 0 where
  done : BytesUpTo 32778 ((act_by (kind_of planned.act) (differs_in planned.act)).spelling planned.act)
  few : length planned.countersigners ≤ 2

-- an order is spelled in bytes, and in fewer than 65,536 of them
abbrev pub IsSpelled : Order → Type 0
IsSpelled order = BytesUpTo 65535 (order_format.spelling order)

order_spelled : (draws : Draws) (before : List Plan) (planned : Plan) → CanBeSigned planned → IsSpelled (signed_plan draws before planned)
unfolding order_format countersignatures_format number_bytes
order_spelled draws before planned can =
    let whole : Order = signed_plan draws before planned in
    let is_spelled = λ (c : Countersignature). BytesUpTo 2348 c.signature in
    let few : length whole.countersignatures ≤ 2 = omega (arith, can.few, length-map planned.countersigners (countersignature_by draws before (order_body (unsigned_order before planned)))) in
    let all : All is_spelled whole.countersignatures =
    All-map is_spelled (countersignature_by draws before (order_body (unsigned_order before planned))) planned.countersigners (λ k d less. signature_bytes _ _ _) in
    let first = body_spelled planned.layer (length before + 1) planned.act can.done in
    let own = sized_spelled whole.signature (signature_bytes _ _ _) in
    let others = countersignatures_spelled (record { below = planned.layer; left = length whole.countersignatures }) whole.countersignatures all in
    wider (joined first (joined own (joined (numbered w8 (length whole.countersignatures)) others))) (omega (arith, few))

-- ---- what the orders do

establishes : (draws : Draws) (n : ℕ) → BytesUpTo 32778 ((act_by kind.Establish false).spelling (act.Establish (public_of (key_of_officer draws n)) (equal_trusts Countersigned)))
unfolding trust_format number_bytes
establishes draws n = wider (joined (public_spelled (key_of_officer draws n) (identifier_bytes _)) (numbered w8 2)) (omega arith)

makes_key : BytesUpTo 32778 ((act_by kind.NewKey false).spelling (act.NewKey kinds.Epoch))
unfolding key_kind_format number_bytes
makes_key = wider (numbered w8 0) (omega arith)

carries : (version : ℕ) (code : List ℕ) → BytesUpTo 32768 code → BytesUpTo 32778 ((payload_format false).spelling (plan_payload version code))
unfolding payload_format trust_format number_bytes
carries version code is = wider (joined (numbered w32 version) (joined (numbered w8 2) (joined (numbered w32 (length code)) is))) (omega arith)

round_can : (first second : Bool) (i : ℕ) (code : List ℕ) → BytesUpTo 32768 code
    → CanBeSigned (
    if first then plan 3 (act.Load (plan_payload (1 + i) code)) []
    else if second then plan 2 (act.Load (plan_payload (1 + i) code)) (3 ∷ [])
    else plan 1 (act.Load (plan_payload (1 + i) code)) (2 ∷ 3 ∷ [])
    )
round_can true second i code is = record { done = carries (1 + i) code is; few = omega arith }
round_can false true i code is = record { done = carries (1 + i) code is; few = omega arith }
round_can false false i code is = record { done = carries (1 + i) code is; few = omega arith }

-- ---- what is drawn

-- what is drawn for a round
pub record RoundBytes (round : RoundDraws) : Type 0 where
  pub code : BytesUpTo 32768 round.code
  pub values : All (BytesUpTo 128) round.values
  pub four : length round.values ≡ 4
  pub message : BytesUpTo 32 round.message

-- what is drawn for orders and rounds
pub record DrawsBytes (draws : Draws) : Type 0 where
  pub code_two : BytesUpTo 32768 draws.code_two
  pub code_three : BytesUpTo 32768 draws.code_three
  pub rounds : All RoundBytes draws.rounds

drawn_bytes : (n : ℕ) (words bytes : List ℕ) → DrawnBytes n words bytes → BytesUpTo n bytes
drawn_bytes n words bytes is = subst (BytesUpTo n) (sym is.given) (taken n (flat_map (to_be_bytes w32) words) (of_words words))

code_drawn : (words code : List ℕ) → DrawnCode words code → BytesUpTo 32768 code
code_drawn words code is = wider (drawn_bytes (1024 + is.first % 31745) is.others code is.drawn) (omega arith)

value_drawn : (words value : List ℕ) → DrawnValue words value → BytesUpTo 128 value
value_drawn words value is = wider (drawn_bytes (is.first % 129) is.others value is.drawn) (omega arith)

round_bytes : (words : List ℕ) (round : RoundDraws) → DrawnRound words round → RoundBytes round
round_bytes words round is = record {
  code = code_drawn is.for_code round.code is.code;
  values = each_drawn DrawnValue (BytesUpTo 128) value_drawn is.for_values round.values is.values;
  four = is.four;
  message = drawn_bytes 32 is.for_message round.message is.message;
}

pub draws_bytes : (number rounds : ℕ) (draws : Draws) → AreDraws number rounds draws → DrawsBytes draws
draws_bytes number rounds draws are = record {
  code_two = code_drawn are.drawn.for_code_two draws.code_two are.drawn.code_two;
  code_three = code_drawn are.drawn.for_code_three draws.code_three are.drawn.code_three;
  rounds = each_drawn DrawnRound RoundBytes round_bytes are.drawn.for_rounds draws.rounds are.drawn.each_round;
}

-- ---- all orders

-- of each item with those before it, what holds of the item
pub all_before : {A : Type 0} (Is : A → Type 0) (xs : List A) → All Is xs → All (λ at. Is at.1) (with_before xs)
unfolding with_before
all_before {A} Is [] all = All-nil (λ (at : List A × A). Is at.1)
all_before {A} Is (x ∷ xs) all =
    let Holds : List A × A → Type 0 = λ at. Is at.1 in
    All-cons Holds ([], x) (map (λ at. (x ∷ at.0, at.1)) (with_before xs)) (All-head Is x xs all)
    (All-map Holds (λ at. (x ∷ at.0, at.1)) (with_before xs) (all_before Is xs (All-tail Is x xs all)))

first_can : (draws : Draws) → DrawsBytes draws → All CanBeSigned (first_plans draws)
first_can draws are =
    All-from_recursion CanBeSigned (first_plans draws) (
      record { done = establishes draws 2; few = omega arith },
      (
        record { done = establishes draws 3; few = omega arith },
        (
          record { done = carries 1 draws.code_two are.code_two; few = omega arith },
          (
            record { done = carries 1 draws.code_three are.code_three; few = omega arith },
            (record { done = makes_key; few = omega arith }, tt),
          ),
        ),
      ),
    )

all_can : (draws : Draws) → DrawsBytes draws → All CanBeSigned (plans draws)
all_can draws are =
    All-append CanBeSigned (first_plans draws) (map (λ at. round_plan (length at.0 + 1) at.1.code) (with_before draws.rounds)) (first_can draws are)
    (All-map CanBeSigned (λ at. round_plan (length at.0 + 1) at.1.code) (with_before draws.rounds)
    (All-weaker (λ (at : List RoundDraws × RoundDraws). RoundBytes at.1) (λ at. CanBeSigned (round_plan (length at.0 + 1) at.1.code))
    (λ at is. round_can ((length at.0 + 1) % 3 == 1) ((length at.0 + 1) % 3 == 2) (length at.0 + 1) at.1.code is.code)
    (with_before draws.rounds) (all_before RoundBytes draws.rounds are.rounds)))

pub orders_spelled : (draws : Draws) → DrawsBytes draws → All IsSpelled (signed_orders draws)
unfolding signed_orders
orders_spelled draws are =
    All-map IsSpelled (λ at. signed_plan draws at.0 at.1) (with_before (plans draws))
    (All-weaker (λ (at : List Plan × Plan). CanBeSigned at.1) (λ at. IsSpelled (signed_plan draws at.0 at.1))
    (λ at can. order_spelled draws at.0 at.1 can) (with_before (plans draws)) (all_before CanBeSigned (plans draws) (all_can draws are)))
