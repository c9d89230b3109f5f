-- How words are drawn one after another, and what all of them are drawn for. Is any word left out, or drawn twice?
use Rattle.std.specs.Prelude.{◌≡◌, ℕ, List, [], ◌∷◌, length, map}
use Rattle.std.specs.List.{AllZip, concat}
use Rattle.mb_model_commands.specs.Workload.{generator_words, DrawnValue, RoundDraws, DrawnRound, Draws, DrawnInOrder}
use Rattle.rand_chacha.specs.ChaCha.{ChaCha, next_word}
use Rattle.mb_generate.specs.declared.draws.RoundDrawn.{RoundDrawn}
use Rattle.mb_generate.specs.declared.draws.Drawn.{Drawn}

-- the generator gives these words, one after another, and becomes the new one
abbrev pub Gives : ChaCha → List ℕ → ChaCha → Type 0
Gives old [] new = new ≡ old
Gives old (word ∷ words) new = (word ≡ (next_word 10 old).0) × Gives (next_word 10 old).1 words new

-- The generator gives words from which this value is drawn, by the rule `Draws`.
pub record IsDrawn {A : Type 0} (Draws : List ℕ → A → Type 0) (old : ChaCha) (value : A) (new : ChaCha) : Type 0 where
  pub words : List ℕ
  pub given : Gives old words new
  pub drawn : Draws words value

-- `count` values are drawn by the rule `Draws`, the words of each after those of the one before
pub record DrawnEach
    {A : Type 0}
    (Draws : List ℕ → A → Type 0)
    (count : ℕ)
    (words : List ℕ)
    (values : List A) : Type 0 where
  pub for_each : List (List ℕ)
  pub in_order : words ≡ concat for_each
  pub count_is : length values ≡ count
  pub each : AllZip Draws for_each values

abbrev pub DrawnValues : ℕ → List ℕ → List (List ℕ) → Type 0
DrawnValues = DrawnEach DrawnValue

abbrev pub DrawnRounds : ℕ → List ℕ → List RoundDraws → Type 0
DrawnRounds = DrawnEach DrawnRound

-- the draws of a round, from what the program holds of it
abbrev pub round_of : RoundDrawn → RoundDraws
round_of round = record { code = round.code; values = round.values; message = round.message }

-- all draws, from what the program holds of them
abbrev pub draws_of : Drawn → Draws
draws_of drawn = record {
  root = drawn.root;
  officer_one = drawn.officer_one;
  officer_two = drawn.officer_two;
  officer_three = drawn.officer_three;
  factory = drawn.factory;
  code_one = drawn.code_one;
  code_two = drawn.code_two;
  code_three = drawn.code_three;
  rounds = map round_of drawn.rounds;
  noise = drawn.noise;
}

-- these are the draws of a workload
pub record AreDraws (number rounds : ℕ) (draws : Draws) : Type 0 where
  pub words : List ℕ
  pub first : words ≡ generator_words number (length words)
  pub drawn : DrawnInOrder words rounds draws
