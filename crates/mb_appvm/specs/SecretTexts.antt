-- How the secrets with which a code is tried are written as a text. Does a text say one list of secrets, and nothing
-- else?
use Rattle.std.specs.Prelude.{◌≡◌, ◌≢◌, ◌<◌, ◌≤◌, ℕ, Bool, false, not, List, [], ◌∷◌, ◌++◌, length, map, codes, filter}
use Rattle.std.specs.Prelude.{AllPairs}
use Rattle.std.specs.List.{AllZip, list_any}
use Rattle.mb_model.specs.declared.limits.TheConstants.{SECRET_LIMIT}
use Rattle.mb_model.specs.declared.region.Secret.{Secret}
use Rattle.mb_model.specs.chains.Lines.{spaced_words, hex_word, text_of}
use Rattle.mb_model.specs.chains.Script.{IsName, FitsMessage, EndsInHex, is_skipped}
use Rattle.mb_model.specs.machine.LayerEvents.{has_name}

-- A line says a secret: its name as it is, and its value in hexadecimal, as a `put` has them. The configuration number
-- at which it was put is not said, and is 0.
pub record SaysKeptSecret (line : List ℕ) (secret : Secret) : Type 0 where
  pub named : IsName secret.name
  pub short : FitsMessage secret.value
  pub born : secret.born ≡ 0
  pub spelled : EndsInHex line (codes "secret" ∷ secret.name ∷ []) secret.value

-- the line is not skipped: it is not empty, and does not begin with a number sign
abbrev pub is_said : List ℕ → Bool
is_said line = not (is_skipped line)

-- The lines say these secrets: one for each line that is not skipped, in order, at most as many as a region can have,
-- and no name twice.
pub record AreSecrets (lines : List (List ℕ)) (secrets : List Secret) : Type 0 where
  pub said : AllZip SaysKeptSecret (filter is_said lines) secrets
  pub most : length secrets ≤ SECRET_LIMIT
  pub once : AllPairs (λ a b. a.name ≢ b.name) secrets

-- ---- reading a line

-- the words of a line that says a secret, where the last is not read yet
pub record HasSecretWords (line name word : List ℕ) : Type 0 where
  pub named : IsName name
  pub whole : line ≡ codes "secret " ++ name ++ 32 ∷ word

-- a line says a secret that can stand after these
pub record AddsSecret (before : List Secret) (line : List ℕ) (secret : Secret) : Type 0 where
  pub says : SaysKeptSecret line secret
  pub room : length before < SECRET_LIMIT
  pub new : list_any (has_name secret.name) before ≡ false

-- ---- writing

-- the line that is written for a secret
abbrev pub secret_line : Secret → List ℕ
secret_line secret = spaced_words (codes "secret" ∷ secret.name ∷ hex_word secret.value ∷ [])

-- the text that is written for secrets
abbrev pub secrets_text : List Secret → List ℕ
secrets_text secrets = text_of (map secret_line secrets)
