-- What a history tells. Can two chains have one history and tell of different changes?
use Rattle.std.specs.Prelude.{◌≡◌, ◌≢◌, ◌⊎◌, ℕ, List, Any, Option, Some}
use Rattle.std.specs.List.{AllZip}
use Rattle.sha2.specs.Sha256.{sha256}
use Rattle.mb_format.specs.Format.{IsBytes}
use Rattle.mb_model.specs.declared.key.PublicKey.{PublicKey}
use Rattle.mb_model.specs.declared.entry.Chain.{Chain}
use Rattle.mb_model.specs.declared.entry.Entry.{Entry}
use Rattle.mb_model.specs.declared.entry.Entry.TheVariants.{Birth, Change, NewKey, Succession}
use Rattle.mb_model.specs.declared.layer.Layers.{Layers}
use Rattle.mb_model.specs.declared.state.Report.{Report}
use Rattle.mb_model.specs.signatures.Key.{key_bytes}
use Rattle.mb_model.specs.owners.Layers.{layer_of}
use Rattle.mb_model.specs.owners.Log.{entries_of, layers_in}
use Rattle.mb_model.specs.chains.Acceptance.{ChainRefusal, bad_statement, Accepts, IsRefused}
use Rattle.mb_model.specs.chains.Lines.{text_of}
use Rattle.mb_tools_shown.specs.HistoryCommand.{has_history, is_untold, IsFinding}
use Rattle.mb_tools_shown.specs.HistoryShown.{history_shown}

-- ---- entries

-- Two entries are the same but for their versions, and for the keys of the device and of regions, which a history does
-- not tell.
abbrev pub TellTheSame : Entry → Entry → Type 0
TellTheSame (Birth version serial key layers) (Birth version' serial' key' layers') =
    (serial ≡ serial') × (layers ≡ layers')
TellTheSame (Change version position number kind layer cosigned layers kept next)
    (Change version' position' number' kind' layer' cosigned' layers' kept' next') =
    (position ≡ position') × (number ≡ number') × (kind ≡ kind') × (layer ≡ layer')
    × (cosigned ≡ cosigned') × (layers ≡ layers') × (kept ≡ kept')
TellTheSame (NewKey position number key_number layer kind key)
    (NewKey position' number' key_number' layer' kind' key') =
    (position ≡ position') × (number ≡ number') × (key_number ≡ key_number') × (layer ≡ layer') × (kind ≡ kind')
TellTheSame (Succession position key) (Succession position' key') = position ≡ position'
TellTheSame _ _ = ⊥

-- the entry leaves a layer that this key owns
pub record NamesOwner (owner : PublicKey) (entry : Entry) : Type 0 where
  pub layers : Layers
  pub named : layers_in entry ≡ Some layers
  pub layer : ℕ
  pub owned : (layer_of layers layer).owner ≡ Some owner

-- Two different keys that own layers, one in each log, have one hash.
pub record OwnersCollide (one other : List Entry) : Type 0 where
  pub first : PublicKey
  pub second : PublicKey
  pub differ : first ≢ second
  pub hash : sha256 (key_bytes first) ≡ sha256 (key_bytes second)
  pub in_one : Any (NamesOwner first) one
  pub in_other : Any (NamesOwner second) other

-- Two chains under one maker's key whose histories are one text have the same entries, but for what a history does not
-- tell. Or there are two owners' keys with one hash in them. (The layers name codes by their hashes.)
abbrev pub HistoriesTellEntries : Type 0
HistoriesTellEntries =
    (maker : PublicKey) (bytes changed : List ℕ) (one other : Chain) (signer another : Option ℕ)
    → IsBytes bytes → IsBytes changed
    → IsFinding maker bytes (has_history one signer) → IsFinding maker changed (has_history other another)
    → text_of (history_shown one signer) ≡ text_of (history_shown other another)
    → AllZip TellTheSame (entries_of one.entries) (entries_of other.entries)
    ⊎ OwnersCollide (entries_of one.entries) (entries_of other.entries)

-- ---- statements

-- A chain whose statement was signed by the key with this number is accepted by `verify` for that key.
abbrev pub SignersAreAccepted : Type 0
SignersAreAccepted =
    (maker : PublicKey) (bytes : List ℕ) (chain : Chain) (signer : ℕ)
    → IsFinding maker bytes (has_history chain (Some signer))
    → (report : Report) × Accepts maker bytes signer report

-- A chain that is refused is refused by `verify` too, for the same reason: for some key, or, if the reason is that no
-- key signed the statement, for each key that the chain makes.
pub record IsRefusedToo (maker : PublicKey) (bytes : List ℕ) (why : ChainRefusal) : Type 0 where
  pub some : why ≢ bad_statement → (n : ℕ) × IsRefused maker bytes n why
  pub each : why ≡ bad_statement → (n : ℕ) (report : Report) → Accepts maker bytes n report → ⊥

abbrev pub RefusalsAreThoseOfVerify : Type 0
RefusalsAreThoseOfVerify =
    (maker : PublicKey) (bytes : List ℕ) (why : ChainRefusal) → IsBytes bytes
    → IsFinding maker bytes (is_untold why) → IsRefusedToo maker bytes why
