-- How far the lines of a text have been read.
use Rattle.std.proofs.Common.{◌≡◌, ℕ, ◌+◌, ◌<◌, ◌≤◌, List, [], ◌∷◌, ◌++◌, length, length-append, sym, ap, subst, arith, append_assoc}
use Rattle.std.specs.List.{AllZip}
use Rattle.mb_model.specs.chains.Lines.{HasLines}
use Rattle.mb_model_lemmas.proofs.LineLemmas.{HasLines-same, HasLines-always, HasLines-nil, cons_same, cons_none}
use Rattle.mb_words.specs.Words.{SplitsLine}
use Rattle.mb_words.proofs.NextLines.{shorter, with_line}
use Rattle.mb_appvm.specs.declared.lines.Said.{Said}
use Rattle.mb_appvm.specs.Assembly.{SaysAssemblyLine}
use Rattle.mb_appvm.specs.Checking.{ReadsTo}

-- Some lines have been read, and say these; whatever lines the rest has, the text has those and these.
pub record IsReadTo (text : List ℕ) (said : List Said) (rest : List ℕ) : Type 0 where
  pub front : List (List ℕ)
  pub worded : AllZip SaysAssemblyLine front said
  pub forward : (more : List (List ℕ)) → HasLines rest more → HasLines text (front ++ more)
  pub few : length said + length rest ≤ length text

pub push_line : (front : List (List ℕ)) (said : List Said) (line : List ℕ) (s : Said) → AllZip SaysAssemblyLine front said → SaysAssemblyLine line s
    → AllZip SaysAssemblyLine (front ++ line ∷ []) (said ++ s ∷ [])
push_line [] [] line s all is = (is, tt)
push_line [] (x ∷ said) line s all is = absurd all
push_line (y ∷ front) [] line s all is = absurd all
push_line (y ∷ front) (x ∷ said) line s all is = (all.0, push_line front said line s all.1 is)

pub read_one : (text rest line later : List ℕ) (said more_said : List Said) (s : Said) → IsReadTo text said rest → SplitsLine rest line later → 0 < length rest
    → SaysAssemblyLine line s → more_said ≡ said ++ s ∷ [] → IsReadTo text more_said later
read_one text rest line later said more_said s is splits some says pushed = record {
  front = is.front ++ line ∷ [];
  worded = subst (λ (x : List Said). AllZip SaysAssemblyLine (is.front ++ line ∷ []) x) (sym pushed) (push_line is.front said line s is.worded says);
  forward = λ more has.
      subst (λ (x : List (List ℕ)). HasLines text x) (sym (append_assoc is.front (line ∷ []) more)) (is.forward (line ∷ more) (with_line rest line later more splits some has));
  few = omega (arith, is.few, shorter rest line later splits some, ap length pushed, length-append said (s ∷ []));
}

pub read_stop : (text rest line later : List ℕ) (said : List Said) → IsReadTo text said rest → SplitsLine rest line later → 0 < length rest
    → ((s : Said) → SaysAssemblyLine line s → ⊥) → ReadsTo text said rest
read_stop text rest line later said is splits some none = record {
  front = is.front;
  worded = is.worded;
  forward = is.forward;
  stops = λ other others has s says.
      let more = HasLines-always later in
      let same = HasLines-same rest (other ∷ others) (line ∷ more.0) has (with_line rest line later more.0 splits some more.1) in
      none s (subst (λ (x : List ℕ). SaysAssemblyLine x s) (cons_same other line others more.0 same).0 says);
  few = is.few;
}

pub read_all : (text rest : List ℕ) (said : List Said) → IsReadTo text said rest → rest ≡ [] → ReadsTo text said rest
read_all text rest said is none = record {
  front = is.front;
  worded = is.worded;
  forward = is.forward;
  stops = λ other others has s says.
      cons_none other others (HasLines-same [] [] (other ∷ others) HasLines-nil (subst (λ (x : List ℕ). HasLines x (other ∷ others)) none has));
  few = is.few;
}
