-- The generated workload: an image, a script and its noise, all derived from one number. Is any of it chosen by hand?
use Rattle.std.specs.Prelude.{◌≡◌, ℕ, ◌+◌, ◌*◌, ◌/◌, ◌%◌, ◌==◌, if◌then◌else◌}
use Rattle.std.specs.Prelude.{List, [], ◌∷◌, ◌++◌, length, map, take, drop, replicate, codes, count_by, flat_map, zip}
use Rattle.std.specs.List.{AllZip, concat}
use Rattle.std.specs.Int.{w32, to_be_bytes}
use Rattle.rand_core.specs.Steps.{first_words}
use Rattle.rand_chacha.specs.ChaCha.{next_word, of_seed}
use Rattle.mb_model.specs.declared.key.KeySeed.{KeySeed}
use Rattle.mb_model.specs.declared.key.Trust.TheVariants.{Countersigned}
use Rattle.mb_model.specs.declared.order.KeyKind.TheVariants as kinds
use Rattle.mb_model.specs.declared.order.Payload.{Payload}
use Rattle.mb_model.specs.declared.order.Countersignature.{Countersignature}
use Rattle.mb_model.specs.declared.order.Act.{Act}
use Rattle.mb_model.specs.declared.order.Act.TheVariants as act
use Rattle.mb_model.specs.declared.order.Target.TheVariants as target
use Rattle.mb_model.specs.declared.order.Order.{Order}
use Rattle.mb_model.specs.owners.Born.{officer_key}
use Rattle.mb_model.specs.signatures.Signing.{public_of, signature_of}
use Rattle.mb_model.specs.owners.Layers.{equal_trusts}
use Rattle.mb_model.specs.memories.Factory.{IsFactoryImage}
use Rattle.mb_model.specs.machine.SignedTexts.{order_text, countersigned_text}
use Rattle.mb_model.specs.records.OrderFormat.{order_body}
use Rattle.mb_model.specs.chains.OrderLines.{order_line}
use Rattle.mb_model.specs.owners.Rules.{kind_of, change_of, signing_layer}
use Rattle.mb_model.specs.chains.Lines.{text_of, spaced_words, hex_word}
use Rattle.mb_model.specs.chains.Script.{with_before}
use Rattle.mb_model_commands.specs.declared.workload.Workload.{Workload}

-- ---- what is drawn

-- The first words, as many as `count` says, of the generator ChaCha of 20 rounds. Its key is the number in four bytes,
-- big-endian, and 28 zeros.
unfoldable pub generator_words : ℕ → ℕ → List ℕ
generator_words number count = first_words (next_word 10) count (of_seed (to_be_bytes w32 number ++ replicate 28 0))

-- these words are drawn for `size` bytes: each gives four, big-endian, and leftover bytes of the last word are dropped
pub record DrawnBytes (size : ℕ) (words bytes : List ℕ) : Type 0 where
  pub count : length words ≡ (size + 3) / 4
  pub given : bytes ≡ take size (flat_map (to_be_bytes w32) words)

-- these words are drawn for bytes whose number is drawn too: the first word gives that number, and the others give the
-- bytes
pub record DrawnSized (size : ℕ → ℕ) (words bytes : List ℕ) : Type 0 where
  pub first : ℕ
  pub others : List ℕ
  pub split : words ≡ first ∷ others
  pub drawn : DrawnBytes (size first) others bytes

-- a code: 1,024 to 32,768 bytes
abbrev pub DrawnCode : List ℕ → List ℕ → Type 0
DrawnCode words code = DrawnSized (λ word. 1024 + word % 31745) words code

-- the value of a secret: at most 128 bytes
abbrev pub DrawnValue : List ℕ → List ℕ → Type 0
DrawnValue words value = DrawnSized (λ word. word % 129) words value

-- what is drawn for a round: the code that is loaded, the values of four secrets, and a message of 32 bytes
pub record RoundDraws : Type 0 where
  pub code : List ℕ
  pub values : List (List ℕ)
  pub message : List ℕ

-- these words are drawn for a round, in this order
pub record DrawnRound (words : List ℕ) (round : RoundDraws) : Type 0 where
  pub for_code : List ℕ
  pub for_values : List (List ℕ)
  pub for_message : List ℕ
  pub in_order : words ≡ for_code ++ concat for_values ++ for_message
  pub code : DrawnCode for_code round.code
  pub four : length round.values ≡ 4
  pub values : AllZip DrawnValue for_values round.values
  pub message : DrawnBytes 32 for_message round.message

-- What is drawn in all: the noise of four keys and of the factory, the first code of each layer, what the rounds need,
-- and the noise of the script's commands.
pub record Draws : Type 0 where
  pub root : List ℕ
  pub officer_one : List ℕ
  pub officer_two : List ℕ
  pub officer_three : List ℕ
  pub factory : List ℕ
  pub code_one : List ℕ
  pub code_two : List ℕ
  pub code_three : List ℕ
  pub rounds : List RoundDraws
  pub noise : List ℕ

-- these words are drawn for a workload of this many rounds, in this order
pub record DrawnInOrder (words : List ℕ) (rounds : ℕ) (draws : Draws) : Type 0 where
  pub for_root : List ℕ
  pub for_one : List ℕ
  pub for_two : List ℕ
  pub for_three : List ℕ
  pub for_factory : List ℕ
  pub for_code_one : List ℕ
  pub for_code_two : List ℕ
  pub for_code_three : List ℕ
  pub for_rounds : List (List ℕ)
  pub for_noise : List ℕ
  pub in_order : words ≡ for_root ++ for_one ++ for_two ++ for_three ++ for_factory
      ++ for_code_one ++ for_code_two ++ for_code_three ++ concat for_rounds ++ for_noise
  pub root : DrawnBytes 32 for_root draws.root
  pub officer_one : DrawnBytes 32 for_one draws.officer_one
  pub officer_two : DrawnBytes 32 for_two draws.officer_two
  pub officer_three : DrawnBytes 32 for_three draws.officer_three
  pub factory : DrawnBytes 48 for_factory draws.factory
  pub code_one : DrawnCode for_code_one draws.code_one
  pub code_two : DrawnCode for_code_two draws.code_two
  pub code_three : DrawnCode for_code_three draws.code_three
  pub all_rounds : length draws.rounds ≡ rounds
  pub each_round : AllZip DrawnRound for_rounds draws.rounds
  pub noise : DrawnBytes (32 * (5 + rounds)) for_noise draws.noise

-- ---- orders

-- the key of the officer who owns the layer of the same number: 1, 2 or 3
abbrev pub key_of_officer : Draws → ℕ → KeySeed
key_of_officer draws officer =
    officer_key
    (if officer == 1 then draws.officer_one else if officer == 2 then draws.officer_two else draws.officer_three)

-- an order to be signed: what it does to which layer, and which officers countersign it
pub record Plan : Type 0 where
  pub layer : ℕ
  pub act : Act
  pub countersigners : List ℕ

abbrev pub plan : ℕ → Act → List ℕ → Plan
plan layer what countersigners = record { layer = layer; act = what; countersigners = countersigners }

-- what a load carries: a version, code, and the trust countersigned for every change beneath
abbrev pub plan_payload : ℕ → List ℕ → Payload
plan_payload version code = record { version = version; trust = equal_trusts Countersigned; code = code }

-- the orders before the rounds: layers 2 and 3 get their owners and their first code, and layer 3 a key
abbrev pub first_plans : Draws → List Plan
first_plans draws =
    plan 2 (act.Establish (public_of (key_of_officer draws 2)) (equal_trusts Countersigned)) []
    ∷ plan 3 (act.Establish (public_of (key_of_officer draws 3)) (equal_trusts Countersigned)) []
    ∷ plan 2 (act.Emergency (plan_payload 1 draws.code_two)) []
    ∷ plan 3 (act.Emergency (plan_payload 1 draws.code_three)) []
    ∷ plan 3 (act.NewKey kinds.Epoch) []
    ∷ []

-- the order of a round, from 1: layers 3, 2 and 1 are loaded in turn, and all above countersign
abbrev pub round_plan : ℕ → List ℕ → Plan
round_plan round code =
    if round % 3 == 1 then plan 3 (act.Load (plan_payload (1 + round) code)) []
    else if round % 3 == 2 then plan 2 (act.Load (plan_payload (1 + round) code)) (3 ∷ [])
    else plan 1 (act.Load (plan_payload (1 + round) code)) (2 ∷ 3 ∷ [])

-- all orders in turn
abbrev pub plans : Draws → List Plan
plans draws = first_plans draws ++ map (λ at. round_plan (length at.0 + 1) at.1.code) (with_before draws.rounds)

-- the officer who signs an order: the owner of the layer that is in charge of it
abbrev pub signer : Plan → ℕ
signer order = signing_layer (change_of (kind_of order.act)) order.layer

-- how many signatures an officer gives for these orders
abbrev pub signatures_by : ℕ → List Plan → ℕ
signatures_by officer orders =
    count_by (λ layer. layer == officer) (flat_map (λ order. signer order ∷ order.countersigners) orders)

-- The signature of an officer on an order that comes after these. No officer signs one order twice, so the next index
-- of the key is the number of signatures that the officer gave for the orders before.
abbrev pub signature_by : Draws → List Plan → ℕ → List ℕ → List ℕ
signature_by draws before officer text = signature_of (key_of_officer draws officer) (signatures_by officer before) text

-- the order without signatures; its one target is the length of the log, to which each order adds an entry
abbrev pub unsigned_order : List Plan → Plan → Order
unsigned_order before order = record {
  layer = order.layer;
  targets = target.Length (length before + 1) ∷ [];
  act = order.act;
  signature = [];
  countersignatures = [];
}

-- the countersignature of the officer `cosigner` on an order with this body
abbrev pub countersignature_by : Draws → List Plan → List ℕ → ℕ → Countersignature
countersignature_by draws before body cosigner =
    record { layer = cosigner; signature = signature_by draws before cosigner (countersigned_text cosigner body) }

-- the order with its signatures
abbrev pub signed_plan : Draws → List Plan → Plan → Order
signed_plan draws before order =
    let body = order_body (unsigned_order before order) in
    record (unsigned_order before order) {
      signature = signature_by draws before (signer order) (order_text body);
      countersignatures = map (countersignature_by draws before body) order.countersigners;
    }

unfoldable pub signed_orders : Draws → List Order
signed_orders draws = map (λ at. signed_plan draws at.0 at.1) (with_before (plans draws))

-- ---- the script

-- s and two digits: the name of the secret that is put after `number` others
abbrev pub secret_name : ℕ → List ℕ
secret_name number = codes "s" ++ (48 + number % 16 / 10) ∷ (48 + number % 16 % 10) ∷ []

abbrev pub put_line : ℕ → List ℕ → List ℕ
put_line number value = spaced_words (codes "put" ∷ codes "3" ∷ secret_name number ∷ hex_word value ∷ [])

-- the lines of a round after `sooner` others
abbrev pub round_lines : ℕ → Order → RoundDraws → List (List ℕ)
round_lines sooner order round =
    codes "off" ∷ codes "boot" ∷ order_line order ∷ codes "go" ∷ codes "go"
    ∷ map (λ at. put_line (4 * sooner + length at.0) at.1) (with_before round.values)
    ++ spaced_words (codes "sign" ∷ codes "3" ∷ codes "1" ∷ hex_word round.message ∷ []) ∷ []

-- the lines of the script: the first five orders, the rounds, and power off
unfoldable pub workload_lines : Draws → List (List ℕ)
workload_lines draws =
    codes "boot" ∷ map order_line (take 5 (signed_orders draws))
    ++ flat_map (λ at. round_lines (length at.0) at.1.0 at.1.1)
    (with_before (zip (drop 5 (signed_orders draws)) draws.rounds))
    ++ codes "off" ∷ []

-- ---- the whole

-- The workload of a number and this many rounds: the words of the generator are drawn in order, none left out, and the
-- three files are made from what was drawn. The image is that of a new device.
pub record IsWorkload (number rounds : ℕ) (workload : Workload) : Type 0 where
  pub words : List ℕ
  pub draws : Draws
  pub first : words ≡ generator_words number (length words)
  pub drawn : DrawnInOrder words rounds draws
  pub image : IsFactoryImage (officer_key draws.root) 0
      (public_of (key_of_officer draws 1)) draws.code_one draws.factory workload.image
  pub script : workload.script ≡ text_of (workload_lines draws)
  pub noise : workload.noise ≡ draws.noise
