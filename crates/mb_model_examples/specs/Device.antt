-- A small device for the examples. The signatures of its log may be arbitrary bytes, since no event verifies them, and
-- it has no code, since no event looks at code that is in place. So its states are not valid ones, and a region may
-- have a key that the log does not have.
use Rattle.std.specs.Prelude.{ℕ, false, List, [], ◌∷◌, map, take, replicate, codes, None, Some}
use Rattle.mb_model.specs.declared.key.KeySeed.{KeySeed}
use Rattle.mb_model.specs.declared.key.Trust.TheVariants.{Countersigned}
use Rattle.mb_model.specs.declared.layer.Layer.{Layer}
use Rattle.mb_model.specs.declared.layer.Layers.{Layers}
use Rattle.mb_model.specs.declared.order.KeyKind.TheVariants.{Epoch}
use Rattle.mb_model.specs.declared.entry.Entry.{Entry}
use Rattle.mb_model.specs.declared.entry.SignedEntry.{SignedEntry}
use Rattle.mb_model.specs.declared.region.Secret.{Secret}
use Rattle.mb_model.specs.declared.region.RegionKey.{RegionKey}
use Rattle.mb_model.specs.declared.region.Region.{Region}
use Rattle.mb_model.specs.declared.state.State.{State}
use Rattle.mb_model.specs.machine.Machine.{Phase, World}
use Rattle.mb_model_examples.specs.RuleExamples.{life, running, three_runs}

-- entries, each with this signature
abbrev pub signed_with : List ℕ → List Entry → List SignedEntry
signed_with signature entries = map (λ (entry : Entry). record { entry = entry; signature = signature }) entries

abbrev pub seed_of : ℕ → KeySeed
seed_of n = record { identifier = replicate 16 n; seed = replicate 32 n }

-- ---- regions

abbrev pub secret : List ℕ → List ℕ → ℕ → Secret
secret name value born = record { name = name; value = value; born = born }

abbrev pub pin : Secret
pin = secret (codes "pin") (codes "1234") 3

abbrev pub token : Secret
token = secret (codes "token") (codes "abc") 4

-- the key of region 3, after this many signatures
abbrev pub key_one : ℕ → RegionKey
key_one uses = record { number = 1; kind = Epoch; seed = seed_of 11; uses = uses }

abbrev pub with_secrets : List Secret → Region
with_secrets secrets = record { secrets = secrets; keys = [] }

abbrev pub with_keys : List RegionKey → Region
with_keys keys = record { secrets = []; keys = keys }

-- region 2 with two secrets
abbrev pub secrets_of_two : Region
secrets_of_two = with_secrets (pin ∷ token ∷ [])

-- region 3 with one key, after this many signatures
abbrev pub key_of_three : ℕ → Region
key_of_three uses = with_keys (key_one uses ∷ [])

-- a region of secrets whose names are these letters
abbrev pub with_letters : List ℕ → Region
with_letters letters = with_secrets (map (λ letter. secret (letter ∷ []) [] 4) letters)

-- a region with as many secrets as there may be
abbrev pub full_region : Region
full_region = with_letters (codes "abcdefghijklmnopqrstuv")

-- a region with as many keys as there may be
abbrev pub eight_keys : Region
eight_keys =
    with_keys (map (λ number. record (key_one 0) { number = number }) (1 ∷ 2 ∷ 3 ∷ 4 ∷ 5 ∷ 6 ∷ 7 ∷ 8 ∷ []))

-- ---- states

-- a device whose log is the first six entries of `life`: its configuration number is 4
abbrev pub device : Layers → Region → Region → List ℕ → State
device layers two three signature = record {
  serial = replicate 16 9;
  layers = layers;
  codes = record { one = None; two = None; three = None };
  log = signed_with signature (take 6 life);
  device = seed_of 10;
  uses = 5;
  two = two;
  three = three;
}

-- all layers run, and these are the regions
abbrev pub with_regions : Region → Region → List ℕ → State
with_regions two three signature = device three_runs two three signature

-- all layers run; region 2 has two secrets, and region 3 a key that has signed this many times
abbrev pub after_uses : ℕ → List ℕ → State
after_uses n signature = with_regions secrets_of_two (key_of_three n) signature

abbrev pub alive : List ℕ → State
alive signature = after_uses 0 signature

abbrev pub unreliable : ℕ → Layer
unreliable n = record (running n Countersigned) { reliable = false }

-- the device `alive`, but layer 2 is not reliable
abbrev pub two_doubted : List ℕ → State
two_doubted signature = record (alive signature) { layers = record three_runs { two = unreliable 2 } }

-- the device `alive`, but layer 3 is not reliable
abbrev pub three_doubted : List ℕ → State
three_doubted signature = record (alive signature) { layers = record three_runs { three = unreliable 3 } }

-- ---- worlds

-- a device that is alive, without an armed power loss
abbrev pub world_at : Phase → State → World
world_at phase state = record { state = Some state; phase = phase; armed = false }

abbrev pub dead_world : Phase → World
dead_world phase = record { state = None; phase = phase; armed = false }
