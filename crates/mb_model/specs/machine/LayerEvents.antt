-- What layers do with their regions: secrets and statements. Who can read a secret, and what does a key sign?
use Rattle.std.specs.Prelude.{ℕ, ◌+◌, ◌==◌, nat_lt, nat_le, Bool, false, not, ◌&&◌, ◌||◌, List, [], ◌∷◌, ◌++◌, length}
use Rattle.std.specs.Prelude.{map, filter, find, Option, None, Some, if◌then◌else◌}
use Rattle.std.specs.List.{list_any}
use Rattle.mb_format.specs.Combinators.{same_bytes}
use Rattle.mb_model.specs.declared.limits.TheConstants.{SECRET_LIMIT, KEY_USES}
use Rattle.mb_model.specs.declared.entry.Said.TheVariants.{Message}
use Rattle.mb_model.specs.declared.entry.Statement.{Statement}
use Rattle.mb_model.specs.declared.state.Codes.{Codes}
use Rattle.mb_model.specs.machine.Actions.{begins_with_call_word}
use Rattle.mb_model.specs.declared.region.Secret.{Secret}
use Rattle.mb_model.specs.declared.region.RegionKey.{RegionKey}
use Rattle.mb_model.specs.declared.region.Region.{Region}
use Rattle.mb_model.specs.declared.state.State.{State}
use Rattle.mb_model.specs.declared.reply.Reply.{Reply}
use Rattle.mb_model.specs.declared.reply.Reply.TheVariants as reply
use Rattle.mb_model.specs.owners.Layers.{is_runnable}
use Rattle.mb_model.specs.owners.Log.{entries_of, number_of}
use Rattle.mb_model.specs.signatures.Signing.{signature_of}
use Rattle.mb_model.specs.records.ChainFormat.{statement_format}
use Rattle.mb_model.specs.machine.SignedTexts.{statement_text}
use Rattle.mb_model.specs.declared.reply.Refusal.TheVariants.{WrongLayer, WrongCode, RegionFull, NoSuchKey, KeySpent}
use Rattle.mb_model.specs.machine.Refusals.{refusal_reply}
use Rattle.mb_model.specs.owners.Regions.{region_of, with_region}

-- what an event comes to: its reply, and the state afterwards
abbrev pub Outcome : Type 0
Outcome = Reply × State

-- the secret has this name
abbrev pub has_name : List ℕ → Secret → Bool
has_name name secret = same_bytes secret.name name

-- the secrets with this one in place of the one that has its name, or at the end if none has
unfoldable pub with_secret : Secret → List Secret → List Secret
with_secret new secrets =
    if list_any (has_name new.name) secrets
    then map (λ old. if has_name new.name old then new else old) secrets
    else secrets ++ new ∷ []

-- the region has no secret of this name, and as many as it can have
abbrev pub is_full_for : List ℕ → Region → Bool
is_full_for name region = not (list_any (has_name name) region.secrets) && nat_le SECRET_LIMIT (length region.secrets)

-- a secret is kept with the current configuration number, unless its name is new and the region is full
unfoldable pub put_event : ℕ → List ℕ → List ℕ → State → Outcome
put_event layer name value state =
    let region = region_of state layer in
    let new : Secret = record { name = name; value = value; born = number_of (entries_of state.log) } in
    if is_full_for name region
    then (refusal_reply RegionFull, state)
    else (reply.Kept, with_region state layer (record region { secrets = with_secret new region.secrets }))

abbrev pub value_reply : Option Secret → Reply
value_reply None = reply.Absent
value_reply (Some secret) = reply.Value secret.value

-- a secret is read
unfoldable pub get_event : ℕ → List ℕ → State → Outcome
get_event layer name state = (value_reply (find (has_name name) (region_of state layer).secrets), state)

-- a secret is dropped
unfoldable pub drop_event : ℕ → List ℕ → State → Outcome
drop_event layer name state =
    let region = region_of state layer in
    let others = filter (λ secret. not (has_name name secret)) region.secrets in
    if list_any (has_name name) region.secrets
    then (reply.Dropped, with_region state layer (record region { secrets = others }))
    else (reply.Absent, state)

-- the key has this number
abbrev pub has_number : ℕ → RegionKey → Bool
has_number number key = key.number == number

-- the keys, with one more use of the key with this number
unfoldable pub with_use : ℕ → List RegionKey → List RegionKey
with_use number keys = map (λ key. if has_number number key then record key { uses = key.uses + 1 } else key) keys

-- the statement of a message by a key of a region
unfoldable pub statement_of : State → RegionKey → List ℕ → Statement
statement_of state key message =
    let number = number_of (entries_of state.log) in
    record {
      number = number;
      said = Message message;
      signature = signature_of key.seed key.uses (statement_text state.serial key.number number message);
    }

-- the key, if there is one, signs with its next index, unless its 32 indices are used
abbrev pub sign_with : ℕ → Option RegionKey → List ℕ → State → Outcome
sign_with layer None message state = (refusal_reply NoSuchKey, state)
sign_with layer (Some key) message state =
    let region = region_of state layer in
    if nat_le KEY_USES key.uses then (refusal_reply KeySpent, state)
    else (
      reply.Signed key.number key.uses (statement_format.spelling (statement_of state key message)),
      with_region state layer (record region { keys = with_use key.number region.keys }),
    )

-- a message is signed by the key with this number
unfoldable pub sign_event : ℕ → ℕ → List ℕ → State → Outcome
sign_event layer number message state =
    sign_with layer (find (has_number number) (region_of state layer).keys) message state

-- the stored code of layer 2 or 3
abbrev pub code_in : Codes → ℕ → Option (List ℕ)
code_in codes layer = if layer == 2 then codes.two else codes.three

-- whether a layer's code takes calls; its region is then the code's alone
abbrev pub takes_calls : Option (List ℕ) → Bool
takes_calls None = false
takes_calls (Some code) = begins_with_call_word code

-- An event on the region of a layer is refused if control is past that layer, if the layer may not run, or if its code
-- takes calls. A layer can use the regions above it: those rest on its code, and have to trust it anyhow.
abbrev pub on_region : ℕ → ℕ → (State → Outcome) → State → Outcome
on_region ratchet layer event state =
    if nat_lt layer ratchet || not (is_runnable state.layers layer) then (refusal_reply WrongLayer, state)
    else if takes_calls (code_in state.codes layer) then (refusal_reply WrongCode, state)
    else event state
