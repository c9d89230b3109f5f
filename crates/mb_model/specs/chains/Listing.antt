-- What the verifier prints of a chain, and what is printed of a generated workload. Does the listing say all that was
-- found?
use Rattle.std.specs.Prelude.{ℕ, Bool, true, false, List, [], ◌∷◌, ◌++◌, length, take, codes, count_by, flat_map}
use Rattle.std.specs.Prelude.{Option, None, Some, if◌then◌else◌}
use Rattle.std.specs.Fmt.{decimal}
use Rattle.sha2.specs.Sha256.{sha256}
use Rattle.mb_model.specs.declared.key.PublicKey.{PublicKey}
use Rattle.mb_model.specs.declared.entry.Said.{Said}
use Rattle.mb_model.specs.declared.entry.Said.TheVariants.{Message, Answer}
use Rattle.mb_model.specs.declared.layer.CodeName.{CodeName}
use Rattle.mb_model.specs.declared.layer.Layer.{Layer}
use Rattle.mb_model.specs.declared.layer.Trusts.{Trusts}
use Rattle.mb_model.specs.declared.state.Configuration.{Configuration}
use Rattle.mb_model.specs.declared.state.Report.{Report}
use Rattle.mb_model.specs.declared.event.Answered.{Answered}
use Rattle.mb_model.specs.declared.reply.Reply.{Reply}
use Rattle.mb_model.specs.declared.reply.Reply.TheVariants as reply
use Rattle.mb_model.specs.signatures.Key.{key_bytes}
use Rattle.mb_model.specs.owners.Layers.{are_equal}
use Rattle.mb_model.specs.chains.Lines.{spaced_words, hex_word}
use Rattle.mb_model.specs.chains.Drafts.{trust_word, kind_word}

abbrev pub life_word : Bool → List ℕ
life_word true = codes "alive"
life_word false = codes "ended"

abbrev pub reliable_word : Bool → List ℕ
reliable_word true = codes "reliable"
reliable_word false = codes "unreliable"

-- the hash of an owner's key, or a dash
abbrev pub owner_word : Option PublicKey → List ℕ
owner_word None = codes "-"
owner_word (Some owner) = hex_word (sha256 (key_bytes owner))

-- the hash and the version of code, or two dashes
abbrev pub code_words : Option CodeName → List (List ℕ)
code_words None = codes "-" ∷ codes "-" ∷ []
code_words (Some code) = hex_word code.hash ∷ decimal code.version ∷ []

-- The words for a layer's trusts: one word if they are equal, else both. So the listing of a device that never gave two
-- trusts stays as it was.
abbrev pub trust_words : Trusts → List (List ℕ)
trust_words trusts =
    if are_equal trusts then trust_word trusts.one ∷ []
    else trust_word trusts.one ∷ trust_word trusts.two ∷ []

-- the line of the layer with this number
abbrev pub layer_line : ℕ → Layer → List ℕ
layer_line number layer =
    spaced_words (codes "layer" ∷ decimal number ∷ owner_word layer.owner ∷ code_words layer.code
    ++ reliable_word layer.reliable ∷ trust_words layer.trust)

-- the lines of a configuration: its number, and each layer from 1 up to the key's
abbrev pub configuration_lines : Configuration → List (List ℕ)
configuration_lines item =
    spaced_words (codes "configuration" ∷ decimal item.number ∷ [])
    ∷ take item.upto (layer_line 1 item.layers.one ∷ layer_line 2 item.layers.two ∷ layer_line 3 item.layers.three ∷ [])

-- the words for what a statement says: a message; or the hash of a call's input, and the answer
abbrev pub said_words : Said → List (List ℕ)
said_words (Message message) = codes "statement" ∷ hex_word message ∷ []
said_words (Answer input answer) = codes "called" ∷ hex_word input ∷ hex_word answer ∷ []

abbrev pub statement_lines : Option Said → List (List ℕ)
statement_lines None = []
statement_lines (Some said) = spaced_words (said_words said) ∷ []

-- the lines of the report on the key with this number
unfoldable pub listing : ℕ → Report → List (List ℕ)
listing key report =
    spaced_words (codes "key" ∷ decimal key ∷ kind_word report.kind
    ∷ codes "layer" ∷ decimal report.layer ∷ life_word report.alive ∷ [])
    ∷ flat_map configuration_lines report.lives ++ statement_lines report.said

-- ---- the summary of a generated workload

abbrev pub is_done : Reply → Bool
is_done (reply.Done number length) = true
is_done _ = false

abbrev pub is_signed : Reply → Bool
is_signed (reply.Signed key index statement) = true
is_signed _ = false

abbrev pub is_refused : Reply → Bool
is_refused (reply.Refused number) = true
is_refused _ = false

-- how many of the answered events have such a reply
abbrev pub replies_that : (Reply → Bool) → List Answered → ℕ
replies_that test answered = count_by (λ each. test each.reply) answered

-- a name and a number
abbrev pub number_line : List ℕ → ℕ → List ℕ
number_line name number = spaced_words (name ∷ decimal number ∷ [])

-- the lines of the summary: counts of the answered events, the length of the log at the end, the hash of the image
unfoldable pub summary : List Answered → ℕ → List ℕ → List (List ℕ)
summary answered log_length image_hash =
    number_line (codes "events") (length answered)
    ∷ number_line (codes "done") (replies_that is_done answered)
    ∷ number_line (codes "signed") (replies_that is_signed answered)
    ∷ number_line (codes "refused") (replies_that is_refused answered)
    ∷ number_line (codes "length") log_length
    ∷ spaced_words (codes "image" ∷ hex_word image_hash ∷ [])
    ∷ []
