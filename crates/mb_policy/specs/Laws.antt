-- What the definitions give: a text is read in one way, and a report is judged in one way.
use Rattle.std.specs.Prelude.{◌≡◌, ℕ, List}
use Rattle.mb_model.specs.declared.state.Report.{Report}
use Rattle.mb_model.specs.chains.Lines.{ReadsLines, TextFailsAtLine}
use Rattle.mb_policy.specs.declared.judging.Judgement.{Judgement}
use Rattle.mb_policy.specs.Policies.{PolicyItem, IsPolicy}
use Rattle.mb_policy.specs.Judging.{IsJudged}

-- a text says one policy, or one line of it is the first that is wrong; never two of either, never both
pub record PoliciesAreClear : Type 0 where
  pub one_policy : (text : List ℕ) (a b : List PolicyItem) → ReadsLines IsPolicy text a → ReadsLines IsPolicy text b
      → a ≡ b
  pub one_line : (text : List ℕ) (first second : ℕ) → TextFailsAtLine IsPolicy text first
      → TextFailsAtLine IsPolicy text second → first ≡ second
  pub never_both : (text : List ℕ) (items : List PolicyItem) (line : ℕ) → ReadsLines IsPolicy text items
      → TextFailsAtLine IsPolicy text line → ⊥

-- a report has one judgement by a policy, and always has one
pub record JudgementsAreClear : Type 0 where
  pub one_judgement : (items : List PolicyItem) (report : Report) (a b : Judgement) → IsJudged items report a
      → IsJudged items report b → a ≡ b
  pub always_one : (items : List PolicyItem) (report : Report)
      → (judgement : Judgement) × IsJudged items report judgement
