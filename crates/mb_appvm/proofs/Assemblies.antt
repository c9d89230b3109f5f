-- A text that was read and checked, as a whole.
use Rattle.std.proofs.Common.{◌≡◌, ℕ, zero, suc, ◌+◌, ◌<◌, ◌≤◌, ◌⊎◌, inl, inr, List, [], ◌∷◌, ◌++◌, length, take, drop, get_or, Bool, true, false, refl, sym, ap, subst, ◌∙◌, arith, append_assoc, append-nil, length-take}
use Rattle.std.specs.Prelude.{All, sum_by, ◌||◌}
use Rattle.std.specs.List.{AllZip, list_any}
use Rattle.std.proofs.lemmas.List.{take_more, take-append-drop, take_all}
use Rattle.std.proofs.lemmas.List.Elements.{All-nil, All-cons, All-weaker}
use Rattle.mb_format.proofs.Fields.{same_bytes-refl}
use Rattle.mb_model.specs.chains.Lines.{HasLines}
use Rattle.mb_model_lemmas.proofs.LineLemmas.{HasLines-none, HasLines-nil, HasLines-same, HasLines-always}
use Rattle.mb_appvm.specs.declared.lines.Said.{Said}
use Rattle.mb_appvm.specs.declared.lines.Said.TheVariants as says
use Rattle.mb_appvm.specs.Assembly.{SaysAssemblyLine, IsSayable, size_of, is_label, GivesLabel, HasTarget, AreRight, Assembles, AssemblyFailsAt}
use Rattle.mb_appvm.specs.Checking.{ReadsTo, IsTarget, IsGiven, AreSoundLines, CountsSound, IsCode}
use Rattle.mb_appvm.proofs.Labels.{is_label-true, none_given}
use Rattle.mb_appvm.proofs.Words.{SaysLine-same}

-- ---- lines and what they say, side by side

pub zip_take : {A B : Type 0} (R : A → B → Type 0) (n : ℕ) (xs : List A) (ys : List B) → AllZip R xs ys → AllZip R (take n xs) (take n ys)
zip_take R zero xs ys all = tt
zip_take R (suc n) [] [] all = tt
zip_take R (suc n) [] (y ∷ ys) all = absurd all
zip_take R (suc n) (x ∷ xs) [] all = absurd all
zip_take R (suc n) (x ∷ xs) (y ∷ ys) all = (all.0, zip_take R n xs ys all.1)

zip_length : {A B : Type 0} (R : A → B → Type 0) (xs : List A) (ys : List B) → AllZip R xs ys → length xs ≡ length ys
zip_length R [] [] all = refl
zip_length R [] (y ∷ ys) all = absurd all
zip_length R (x ∷ xs) [] all = absurd all
zip_length R (x ∷ xs) (y ∷ ys) all = omega (arith, zip_length R xs ys all.1)

pub said_unique : (lines : List (List ℕ)) (a b : List Said) → AllZip SaysAssemblyLine lines a → AllZip SaysAssemblyLine lines b → a ≡ b
said_unique [] [] [] za zb = refl
said_unique [] (x ∷ a) b za zb = absurd za
said_unique [] [] (y ∷ b) za zb = absurd zb
said_unique (line ∷ lines) [] b za zb = absurd za
said_unique (line ∷ lines) (x ∷ a) [] za zb = absurd zb
said_unique (line ∷ lines) (x ∷ a) (y ∷ b) za zb =
    let head = SaysLine-same line x y za.0 zb.0 in
    let tail = said_unique lines a b za.1 zb.1 in
    cc

pub all_sayable : (lines : List (List ℕ)) (said : List Said) → AllZip SaysAssemblyLine lines said → All IsSayable said
all_sayable [] [] all = All-nil IsSayable
all_sayable [] (s ∷ said) all = absurd all
all_sayable (line ∷ lines) [] all = absurd all
all_sayable (line ∷ lines) (s ∷ said) all = All-cons IsSayable s said all.0.sayable (all_sayable lines said all.1)

-- a line in the middle says something
middle : (before later : List (List ℕ)) (line : List ℕ) (said : List Said) → AllZip SaysAssemblyLine (before ++ line ∷ later) said → (s : Said) × SaysAssemblyLine line s
middle [] later line [] all = absurd all
middle [] later line (s ∷ said) all = (s, all.0)
middle (x ∷ before) later line [] all = absurd all
middle (x ∷ before) later line (s ∷ said) all = middle before later line said all.1

-- ---- labels

gives_more : (line : List ℕ) (front : List (List ℕ)) (said : List Said) (name : List ℕ) (s : Said) → AllZip SaysAssemblyLine (line ∷ front) (s ∷ said) → (b : Bool) → is_label name s ≡ b
    → (b || list_any (is_label name) said) ≡ true → (list_any (is_label name) said ≡ true → GivesLabel front name) → GivesLabel (line ∷ front) name
gives_more line front said name s all true is any on = inl (subst (λ (x : Said). SaysAssemblyLine line x) (is_label-true s name is) all.0)
gives_more line front said name s all false is any on = inr (on any)

gives_front : (front : List (List ℕ)) (said : List Said) (name : List ℕ) → AllZip SaysAssemblyLine front said → list_any (is_label name) said ≡ true → GivesLabel front name
gives_front [] [] name all any = absurd cc
gives_front [] (s ∷ said) name all any = absurd all
gives_front (line ∷ front) [] name all any = absurd all
gives_front (line ∷ front) (s ∷ said) name all any = gives_more line front said name s all (is_label name s) refl any (gives_front front said name all.1)

or_right : (a b : Bool) → b ≡ true → (a || b) ≡ true
or_right true b e = refl
or_right false b e = e

front_gives : (front : List (List ℕ)) (said : List Said) (name : List ℕ) → AllZip SaysAssemblyLine front said → GivesLabel front name → list_any (is_label name) said ≡ true
front_gives [] [] name all gives = absurd gives
front_gives [] (s ∷ said) name all gives = absurd all
front_gives (line ∷ front) [] name all gives = absurd all
front_gives (line ∷ front) (s ∷ said) name all (inl is) =
    let same = ap (is_label name) (SaysLine-same line s (says.Label name) all.0 is) ∙ same_bytes-refl name in
    rw same refl
front_gives (line ∷ front) (s ∷ said) name all (inr more) = or_right (is_label name s) (list_any (is_label name) said) (front_gives front said name all.1 more)

gives_left : (front later : List (List ℕ)) (name : List ℕ) → GivesLabel front name → GivesLabel (front ++ later) name
gives_left [] later name gives = absurd gives
gives_left (line ∷ front) later name (inl is) = inl is
gives_left (line ∷ front) later name (inr more) = inr (gives_left front later name more)

gives_right : (front later : List (List ℕ)) (name : List ℕ) → GivesLabel later name → GivesLabel (front ++ later) name
gives_right [] later name gives = gives
gives_right (line ∷ front) later name gives = inr (gives_right front later name gives)

gives_split : (front later : List (List ℕ)) (name : List ℕ) → GivesLabel (front ++ later) name → GivesLabel front name ⊎ GivesLabel later name
gives_split [] later name gives = inr gives
gives_split (line ∷ front) later name (inl is) = inl (inl is)
gives_split (line ∷ front) later name (inr more) =
    elim (gives_split front later name more) [ inl is ↦ inl (inr is) | inr is ↦ inr is ]

-- ---- targets

target_out : (front later : List (List ℕ)) (all : List Said) (rest : List ℕ) (s : Said) → AllZip SaysAssemblyLine front all → HasLines rest later
    → IsTarget all rest s → HasTarget (front ++ later) s
target_out front later all rest (says.Label name) zip has target = tt
target_out front later all rest (says.Whole i) zip has target = tt
target_out front later all rest (says.JumpTo kind name) zip has (inl any) = gives_left front later name (gives_front front all name zip any)
target_out front later all rest (says.JumpTo kind name) zip has (inr gives) =
    gives_right front later name (subst (λ (x : List (List ℕ)). GivesLabel x name) (HasLines-same rest gives.lines later gives.has has) gives.gives)

target_in : (front later : List (List ℕ)) (all : List Said) (rest : List ℕ) (s : Said) → AllZip SaysAssemblyLine front all → HasLines rest later
    → HasTarget (front ++ later) s → IsTarget all rest s
target_in front later all rest (says.Label name) zip has target = tt
target_in front later all rest (says.Whole i) zip has target = tt
target_in front later all rest (says.JumpTo kind name) zip has gives =
    elim (gives_split front later name gives) [
      | inl is ↦ inl (front_gives front all name zip is)
      | inr is ↦ inr (record { lines = later; has = has; gives = is })
    ]

given : (all : List Said) (rest : List ℕ) (s : Said) → rest ≡ [] → IsTarget all rest s → IsGiven all s
given all rest (says.Label name) none target = tt
given all rest (says.Whole i) none target = tt
given all rest (says.JumpTo kind name) none (inl any) = any
given all rest (says.JumpTo kind name) none (inr gives) = absurd (none_given rest name none gives)

-- ---- the lines at the front of a text

are_right : (front later : List (List ℕ)) (all : List Said) (rest : List ℕ) (n : ℕ) → AllZip SaysAssemblyLine front all → HasLines rest later
    → AreSoundLines all rest (take n all) → AreRight (front ++ later) (take n front) (take n all)
are_right front later all rest n zip has sound = record {
  worded = zip_take SaysAssemblyLine n front all zip;
  labels = sound.labels;
  targets = All-weaker (IsTarget all rest) (HasTarget (front ++ later)) (λ s. target_out front later all rest s zip has) (take n all) sound.targets;
  short = sound.short;
}

are_sound : (front later : List (List ℕ)) (all : List Said) (rest : List ℕ) (n : ℕ) (said : List Said) → AllZip SaysAssemblyLine front all → HasLines rest later
    → AreRight (front ++ later) (take n front) said → AreSoundLines all rest (take n all)
are_sound front later all rest n said zip has right =
    let same = said_unique (take n front) said (take n all) right.worded (zip_take SaysAssemblyLine n front all zip) in
    subst (λ (x : List Said). AreSoundLines all rest x) same
    (record {
      labels = right.labels;
      targets = All-weaker (HasTarget (front ++ later)) (IsTarget all rest) (λ s. target_in front later all rest s zip has) said right.targets;
      short = right.short;
    })

-- ---- answers

pub wrong_within : (text rest : List ℕ) (said : List Said) (n : ℕ) → ReadsTo text said rest → CountsSound said rest n → n < length said → AssemblyFailsAt text (n + 1)
wrong_within text rest said n read counts less =
    let later = HasLines-always rest in
    let front = read.front in
    let within : n < length front = omega (arith, less, zip_length SaysAssemblyLine front said read.worded) in
    let more : take (n + 1) front ≡ take n front ++ get_or front n [] ∷ [] = take_more front n [] within in
    record {
      lines = front ++ later.0;
      has = read.forward later.0 later.1;
      fails = record {
        before = take n front;
        line = get_or front n [];
        later = drop (n + 1) front ++ later.0;
        split = ap (λ (x : List (List ℕ)). x ++ later.0) (sym (take-append-drop (n + 1) front) ∙ ap (λ (x : List (List ℕ)). x ++ drop (n + 1) front) more)
            ∙ append_assoc (take n front ++ get_or front n [] ∷ []) (drop (n + 1) front) later.0
            ∙ append_assoc (take n front) (get_or front n [] ∷ []) (drop (n + 1) front ++ later.0);
        said = take n said;
        right = are_right front later.0 said rest n read.worded later.1 counts.right;
        wrong = λ others right.
            counts.wrong less (are_sound front later.0 said rest (n + 1) others read.worded later.1
            (subst (λ (x : List (List ℕ)). AreRight (front ++ later.0) x others) (sym more) right));
        number = omega (arith, within, length-take n front);
      };
    }

stopped : (text rest : List ℕ) (said : List Said) (n : ℕ) (later : List (List ℕ)) → ReadsTo text said rest → CountsSound said rest n → n ≡ length said → 0 < length rest
    → HasLines rest later → AssemblyFailsAt text (n + 1)
stopped text rest said n [] read counts all some has = absurd (omega (arith, some, ap length (HasLines-none rest has)))
stopped text rest said n (line ∷ later) read counts all some has =
    let front = read.front in
    let long : n ≡ length front = omega (arith, all, zip_length SaysAssemblyLine front said read.worded) in
    let whole : take n front ≡ front = take_all n front (omega (arith, long)) in
    record {
      lines = front ++ line ∷ later;
      has = read.forward (line ∷ later) has;
      fails = record {
        before = front;
        line = line;
        later = later;
        split = refl;
        said = take n said;
        right = subst (λ (x : List (List ℕ)). AreRight (front ++ line ∷ later) x (take n said)) whole
            (are_right front (line ∷ later) said rest n read.worded has counts.right);
        wrong = λ others right. (let s = middle front [] line others right.worded in read.stops line later has s.0 s.1);
        number = omega (arith, long);
      };
    }

pub wrong_after : (text rest : List ℕ) (said : List Said) (n : ℕ) → ReadsTo text said rest → CountsSound said rest n → (n < length said → ⊥) → 0 < length rest
    → AssemblyFailsAt text (n + 1)
wrong_after text rest said n read counts all some =
    let later = HasLines-always rest in
    let within = counts.within in
    stopped text rest said n later.0 read counts (omega (arith, all, within)) some later.1

sound_whole : (said : List Said) (rest : List ℕ) (n : ℕ) → CountsSound said rest n → (n < length said → ⊥) → AreSoundLines said rest said
sound_whole said rest n counts all =
    let within = counts.within in
    subst (λ (x : List Said). AreSoundLines said rest x) (take_all n said (omega (arith, all, within))) counts.right

pub all_given : (said : List Said) (rest : List ℕ) (n : ℕ) → CountsSound said rest n → (n < length said → ⊥) → rest ≡ [] → All (IsGiven said) said
all_given said rest n counts all none =
    All-weaker (IsTarget said rest) (IsGiven said) (λ s. given said rest s none) said (sound_whole said rest n counts all).targets

pub all_short : (said : List Said) (rest : List ℕ) (n : ℕ) → CountsSound said rest n → (n < length said → ⊥) → sum_by size_of said ≤ 32768
all_short said rest n counts all = (sound_whole said rest n counts all).short

pub assembled : (text rest code : List ℕ) (said : List Said) (n : ℕ) → ReadsTo text said rest → CountsSound said rest n → (n < length said → ⊥) → rest ≡ []
    → IsCode said said code → Assembles text code
assembled text rest code said n read counts all none is =
    let front = read.front in
    let has = subst (λ (x : List ℕ). HasLines x []) (sym none) HasLines-nil in
    let long : length front ≤ n = omega (arith, all, zip_length SaysAssemblyLine front said read.worded) in
    let whole = are_right front [] said rest n read.worded has counts.right in
    let right = subst (λ (x : List (List ℕ)). AreRight (front ++ []) x (take n said)) (take_all n front long ∙ sym (append-nil front)) whole in
    record {
      lines = front ++ [];
      has = read.forward [] has;
      stands = record {
        said = said;
        right = subst (λ (x : List Said). AreRight (front ++ []) (front ++ []) x) (take_all n said (omega (arith, all))) right;
        pieces = is.pieces;
        made = is.made;
        whole = is.whole;
      };
    }
