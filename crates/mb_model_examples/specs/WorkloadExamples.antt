-- The generated workload at work; the checker computes each line. Does the workload come out as intended?
use Rattle.std.specs.Prelude.{◌≡◌, ℕ, List, [], ◌∷◌, length, replicate, codes}
use Rattle.mb_model_commands.specs.Workload.{generator_words, RoundDraws, Draws, round_plan, plans, signatures_by}
use Rattle.mb_model_commands.specs.Workload.{secret_name}
use Rattle.mb_model_commands.specs.Workload.{workload_lines}

-- what might be drawn for a round
abbrev pub some_round : List ℕ → RoundDraws
some_round drawn = record { code = drawn; values = drawn ∷ drawn ∷ drawn ∷ drawn ∷ []; message = drawn }

-- what might be drawn for 24 rounds
abbrev pub some_draws : List ℕ → Draws
some_draws drawn = record {
  root = drawn;
  officer_one = drawn;
  officer_two = drawn;
  officer_three = drawn;
  factory = drawn;
  code_one = drawn;
  code_two = drawn;
  code_three = drawn;
  rounds = replicate 24 (some_round drawn);
  noise = drawn;
}

pub record WorkloadExamples : Type 0 where
  -- the first words of ChaCha20 with a key and a nonce of zeros, as published: the bytes 76 b8 e0 ad a0 f1 3d 90
  pub words : generator_words 0 2 ≡ 0xADE0B876 ∷ 0x903DF1A0 ∷ []
  -- layers 3, 2 and 1 in turn
  pub first_round : (code : List ℕ) → (round_plan 1 code).layer ≡ 3
  pub second_round : (code : List ℕ) → (round_plan 2 code).layer ≡ 2
  pub third_round : (code : List ℕ) → (round_plan 3 code).layer ≡ 1
  -- 24 rounds take no more than the 32 signatures of each officer's key
  pub by_one : (drawn : List ℕ) → signatures_by 1 (plans (some_draws drawn)) ≡ 10
  pub by_two : (drawn : List ℕ) → signatures_by 2 (plans (some_draws drawn)) ≡ 18
  pub by_three : (drawn : List ℕ) → signatures_by 3 (plans (some_draws drawn)) ≡ 25
  -- an event for each line
  pub events : (drawn : List ℕ) → length (workload_lines (some_draws drawn)) ≡ 247
  pub first_name : secret_name 0 ≡ codes "s00"
  pub later_name : secret_name 13 ≡ codes "s13"
  pub same_name : secret_name 29 ≡ codes "s13"
