-- The words of lines: which keyword a word is, and what a line with a keyword and an operand says.
use Rattle.std.proofs.Common.{◌≡◌, ℕ, ◌+◌, ◌%◌, ◌<◌, ◌≤◌, ◌^◌, ◌⊎◌, inl, inr, List, [], ◌∷◌, length, Option, Some, None, refl, sym, ap, subst, ◌∙◌, arith}
use Rattle.std.specs.Prelude.{codes, All, Bool, true, false, cond, nat_lt, nat_le, ◌&&◌}
use Rattle.std.specs.List.{list_all}
use Rattle.std.proofs.lemmas.Bool.{ltb-true, le-leb, leb-true, and_parts}
use Rattle.std.specs.Fmt.{decimal}
use Rattle.std.proofs.lemmas.Fmt.{decimal_by_steps, decimal_injective, decimal_nonempty}
use Rattle.std.proofs.lemmas.List.Elements.{All-nil, All-cons, All-head, All-tail, All-append, All-weaker}
use Rattle.mb_format.specs.Combinators.{same_bytes}
use Rattle.mb_model.specs.records.RegionFormat.{is_name, is_name_byte}
use Rattle.mb_model.specs.chains.Script.{IsName}
use Rattle.mb_model.specs.chains.Lines.{IsNumber, number_limit}
use Rattle.mb_model_lemmas.proofs.LineLemmas.{Without, isnt, first_same, first_none}
use Rattle.mb_model.specs.declared.instruction.Operation.TheVariants as op
use Rattle.mb_model.specs.declared.instruction.Plain.{Plain}
use Rattle.mb_model.specs.declared.instruction.Plain.TheVariants as plain
use Rattle.mb_model.specs.declared.instruction.Instruction.{Instruction}
use Rattle.mb_model.specs.declared.instruction.Instruction.TheVariants as instruction
use Rattle.mb_appvm.specs.declared.keyword.Jump.{Jump}
use Rattle.mb_appvm.specs.declared.keyword.Jump.TheVariants as jump
use Rattle.mb_appvm.specs.declared.keyword.Keyword.{Keyword}
use Rattle.mb_appvm.specs.declared.keyword.Keyword.TheVariants as key
use Rattle.mb_appvm.specs.declared.lines.Said.{Said}
use Rattle.mb_appvm.specs.declared.lines.Said.TheVariants as says
use Rattle.mb_words.specs.Words.{FindsSome}
use Rattle.mb_model.specs.application.Instructions.{instruction_format}
use Rattle.mb_appvm.specs.Reading.{SaysWords}
use Rattle.mb_appvm.specs.Assembly.{keyword_word, jump_to, keyword_of, operand_of, line_of_words, IsLabelName, IsSayable, SaysAssemblyLine}

-- ---- keywords

abbrev keyword_rows : List (List ℕ × Keyword)
keyword_rows =
    (codes "push", key.Push) ∷ (codes "jump", key.Jump jump.Always) ∷ (codes "jumpzero", key.Jump jump.IfZero) ∷ (codes "call", key.Jump jump.Calling)
    ∷ (codes "get", key.Get) ∷ (codes "label", key.Label) ∷ (codes "halt", key.Plain plain.Halt) ∷ (codes "pop", key.Plain plain.Pop)
    ∷ (codes "dup", key.Plain plain.Dup) ∷ (codes "swap", key.Plain plain.Swap) ∷ (codes "over", key.Plain plain.Over) ∷ (codes "return", key.Plain plain.Return)
    ∷ (codes "load", key.Plain plain.Load) ∷ (codes "store", key.Plain plain.Store) ∷ (codes "input", key.Plain plain.Input) ∷ (codes "length", key.Plain plain.Length)
    ∷ (codes "emit", key.Plain plain.Emit) ∷ (codes "add", key.Plain (plain.Compute op.Add)) ∷ (codes "sub", key.Plain (plain.Compute op.Sub))
    ∷ (codes "mul", key.Plain (plain.Compute op.Mul)) ∷ (codes "div", key.Plain (plain.Compute op.Div)) ∷ (codes "rem", key.Plain (plain.Compute op.Rem))
    ∷ (codes "and", key.Plain (plain.Compute op.And)) ∷ (codes "or", key.Plain (plain.Compute op.Or)) ∷ (codes "xor", key.Plain (plain.Compute op.Xor))
    ∷ (codes "equal", key.Plain (plain.Compute op.Equal)) ∷ (codes "less", key.Plain (plain.Compute op.Less)) ∷ []

abbrev row_with : List (List ℕ × Keyword) → List ℕ → Option Keyword
row_with [] word = None
row_with (row ∷ rows) word = cond (same_bytes word row.0) (Some row.1) (row_with rows word)

back : (k : Keyword) → row_with keyword_rows (keyword_word k) ≡ Some k
back key.Push = refl
back (key.Jump jump.Always) = refl
back (key.Jump jump.IfZero) = refl
back (key.Jump jump.Calling) = refl
back key.Get = refl
back key.Label = refl
back (key.Plain plain.Halt) = refl
back (key.Plain plain.Pop) = refl
back (key.Plain plain.Dup) = refl
back (key.Plain plain.Swap) = refl
back (key.Plain plain.Over) = refl
back (key.Plain plain.Return) = refl
back (key.Plain plain.Load) = refl
back (key.Plain plain.Store) = refl
back (key.Plain plain.Input) = refl
back (key.Plain plain.Length) = refl
back (key.Plain plain.Emit) = refl
back (key.Plain (plain.Compute op.Add)) = refl
back (key.Plain (plain.Compute op.Sub)) = refl
back (key.Plain (plain.Compute op.Mul)) = refl
back (key.Plain (plain.Compute op.Div)) = refl
back (key.Plain (plain.Compute op.Rem)) = refl
back (key.Plain (plain.Compute op.And)) = refl
back (key.Plain (plain.Compute op.Or)) = refl
back (key.Plain (plain.Compute op.Xor)) = refl
back (key.Plain (plain.Compute op.Equal)) = refl
back (key.Plain (plain.Compute op.Less)) = refl

pub keyword_same : (j k : Keyword) → keyword_word j ≡ keyword_word k → j ≡ k
keyword_same j k e =
    let there = sym (back j) ∙ ap (row_with keyword_rows) e ∙ back k in
    cc

-- a keyword has no space and no LF: each of its bytes is above 32
abbrev is_letter : ℕ → Bool
is_letter byte = nat_lt 32 byte

letters : (k : Keyword) → list_all is_letter (keyword_word k) ≡ true
letters key.Push = refl
letters (key.Jump jump.Always) = refl
letters (key.Jump jump.IfZero) = refl
letters (key.Jump jump.Calling) = refl
letters key.Get = refl
letters key.Label = refl
letters (key.Plain plain.Halt) = refl
letters (key.Plain plain.Pop) = refl
letters (key.Plain plain.Dup) = refl
letters (key.Plain plain.Swap) = refl
letters (key.Plain plain.Over) = refl
letters (key.Plain plain.Return) = refl
letters (key.Plain plain.Load) = refl
letters (key.Plain plain.Store) = refl
letters (key.Plain plain.Input) = refl
letters (key.Plain plain.Length) = refl
letters (key.Plain plain.Emit) = refl
letters (key.Plain (plain.Compute op.Add)) = refl
letters (key.Plain (plain.Compute op.Sub)) = refl
letters (key.Plain (plain.Compute op.Mul)) = refl
letters (key.Plain (plain.Compute op.Div)) = refl
letters (key.Plain (plain.Compute op.Rem)) = refl
letters (key.Plain (plain.Compute op.And)) = refl
letters (key.Plain (plain.Compute op.Or)) = refl
letters (key.Plain (plain.Compute op.Xor)) = refl
letters (key.Plain (plain.Compute op.Equal)) = refl
letters (key.Plain (plain.Compute op.Less)) = refl

abbrev pub Above : ℕ → List ℕ → Type 0
Above least bytes = All (λ byte. least < byte) bytes

above_more : (x : ℕ) (xs : List ℕ) (b : Bool) → nat_lt 32 x ≡ b → (b && list_all is_letter xs) ≡ true → (list_all is_letter xs ≡ true → Above 32 xs) → Above 32 (x ∷ xs)
above_more x xs true is rest on = All-cons (λ byte. 32 < byte) x xs (ltb-true 32 x is) (on rest)
above_more x xs false is rest on = absurd cc

above_from_test : (bytes : List ℕ) → list_all is_letter bytes ≡ true → Above 32 bytes
above_from_test [] e = All-nil (λ byte. 32 < byte)
above_from_test (x ∷ xs) e = above_more x xs (nat_lt 32 x) refl e (above_from_test xs)

pub keyword_above : (k : Keyword) → Above 32 (keyword_word k)
keyword_above k = above_from_test (keyword_word k) (letters k)

pub spaceless : (bytes : List ℕ) → Above 32 bytes → Without 32 bytes
spaceless bytes is = All-weaker (λ (byte : ℕ). 32 < byte) (isnt 32) (λ byte least space. omega (arith, least, space)) bytes is

-- ---- a line's words

pub same_words : (v w : List ℕ) (a b : Option (List ℕ)) → Without 32 v → Without 32 w → line_of_words v a ≡ line_of_words w b → (v ≡ w) × (a ≡ b)
same_words v w None None pv pw e = (e, refl)
same_words v w None (Some y) pv pw e = absurd (first_none 32 v w y pv e)
same_words v w (Some x) None pv pw e = absurd (first_none 32 w v x pw (sym e))
same_words v w (Some x) (Some y) pv pw e =
    let parts = first_same 32 v w x y pv pw e in
    (parts.0, ap (λ (o : List ℕ). Some o) parts.1)

-- ---- what has a keyword

pub label_only : (s : Said) (x : List ℕ) → keyword_of s ≡ key.Label → operand_of s ≡ Some x → s ≡ says.Label x
label_only s x k o = grind arith

pub plain_only : (s : Said) (p : Plain) → keyword_of s ≡ key.Plain p → s ≡ says.Whole (instruction.Plain p)
plain_only s p k = grind arith

pub push_only : (s : Said) (x : List ℕ) → keyword_of s ≡ key.Push → operand_of s ≡ Some x → (n : ℕ) × (s ≡ says.Whole (instruction.Push n)) × (x ≡ decimal n)
push_only (says.Whole (instruction.Push n)) x k o = (n, refl, cc)
push_only (says.Whole (instruction.Plain p)) x k o = absurd cc
push_only (says.Whole (instruction.Jump to)) x k o = absurd cc
push_only (says.Whole (instruction.JumpZero to)) x k o = absurd cc
push_only (says.Whole (instruction.Call to)) x k o = absurd cc
push_only (says.Whole (instruction.Get name)) x k o = absurd cc
push_only (says.Label name) x k o = absurd cc
push_only (says.JumpTo kind name) x k o = absurd cc

pub get_only : (s : Said) (x : List ℕ) → keyword_of s ≡ key.Get → operand_of s ≡ Some x → s ≡ says.Whole (instruction.Get x)
get_only s x k o = grind arith

pub jump_only : (s : Said) (kind : Jump) (x : List ℕ) → keyword_of s ≡ key.Jump kind → operand_of s ≡ Some x
    → ((place : ℕ) × (s ≡ says.Whole (jump_to kind place)) × (x ≡ decimal place)) ⊎ (s ≡ says.JumpTo kind x)
jump_only (says.Whole (instruction.Jump to)) jump.Always x k o = inl (to, refl, cc)
jump_only (says.Whole (instruction.Jump to)) jump.IfZero x k o = absurd cc
jump_only (says.Whole (instruction.Jump to)) jump.Calling x k o = absurd cc
jump_only (says.Whole (instruction.JumpZero to)) jump.IfZero x k o = inl (to, refl, cc)
jump_only (says.Whole (instruction.JumpZero to)) jump.Always x k o = absurd cc
jump_only (says.Whole (instruction.JumpZero to)) jump.Calling x k o = absurd cc
jump_only (says.Whole (instruction.Call to)) jump.Calling x k o = inl (to, refl, cc)
jump_only (says.Whole (instruction.Call to)) jump.Always x k o = absurd cc
jump_only (says.Whole (instruction.Call to)) jump.IfZero x k o = absurd cc
jump_only (says.Whole (instruction.Plain p)) kind x k o = absurd cc
jump_only (says.Whole (instruction.Push n)) kind x k o = absurd cc
jump_only (says.Whole (instruction.Get name)) kind x k o = absurd cc
jump_only (says.Label name) kind x k o = absurd cc
jump_only (says.JumpTo other name) kind x k o =
    let kinds : other ≡ kind = cc in
    let names : name ≡ x = cc in
    inr cc

-- ---- numbers

abbrev IsDigit : ℕ → Type 0
IsDigit byte = (48 ≤ byte) × (byte ≤ 57)

decimal_digits : (n : ℕ) → n < 2 ^ 64 → All IsDigit (decimal n)
decimal_digits n fits =
    decimal_by_steps (λ m ds. All IsDigit ds)
    (λ m less. All-cons IsDigit (48 + m) [] (omega arith, omega arith) (All-nil IsDigit))
    (λ m ds least more. All-append IsDigit ds ((48 + m % 10) ∷ []) more (All-cons IsDigit (48 + m % 10) [] (omega arith, omega arith) (All-nil IsDigit)))
    n fits

pub decimal_above : (n : ℕ) → n < 2 ^ 64 → Above 32 (decimal n)
decimal_above n fits = All-weaker IsDigit (λ (byte : ℕ). 32 < byte) (λ byte is. omega (arith, is.0)) (decimal n) (decimal_digits n fits)

-- a label is no number
begins : (name digits : List ℕ) → name ≡ digits → 0 < length digits → All IsDigit digits → IsLabelName name → ⊥
begins name [] e some all is = omega (arith, some)
begins name (x ∷ xs) e some all is =
    let digit = All-head IsDigit x xs all in
    let letter = is.worded x xs e digit.0 in
    omega (arith, letter, digit.1)

pub label_no_number : (name : List ℕ) (n : ℕ) → n < 2 ^ 64 → IsLabelName name → name ≡ decimal n → ⊥
label_no_number name n fits is e = begins name (decimal n) e (decimal_nonempty n fits) (decimal_digits n fits) is

-- ---- what may be said

-- a number that fits its bytes
pub push_fits : (n : ℕ) → IsSayable (says.Whole (instruction.Push n)) → n ≤ number_limit
unfolding instruction_format
push_fits n is = omega (arith, is.1)

pub jump_fits : (kind : Jump) (place : ℕ) → IsSayable (says.Whole (jump_to kind place)) → place ≤ 65535
unfolding instruction_format
jump_fits jump.Always place is = omega (arith, is.1)
jump_fits jump.IfZero place is = omega (arith, is.1)
jump_fits jump.Calling place is = omega (arith, is.1)

pub push_sayable : (n : ℕ) → n ≤ number_limit → IsSayable (says.Whole (instruction.Push n))
unfolding instruction_format
push_sayable n fits = (tt, omega (arith, fits))

pub jump_sayable : (kind : Jump) (place : ℕ) → place ≤ 65535 → IsSayable (says.Whole (jump_to kind place))
unfolding instruction_format
jump_sayable jump.Always place fits = (tt, omega (arith, fits))
jump_sayable jump.IfZero place fits = (tt, omega (arith, fits))
jump_sayable jump.Calling place fits = (tt, omega (arith, fits))

pub plain_sayable : (p : Plain) → IsSayable (says.Whole (instruction.Plain p))
unfolding instruction_format
plain_sayable p = (tt, refl)

-- a name of a secret, as a text says it and as a format does
name_bytes : (name : List ℕ) → All (λ byte. (0x21 ≤ byte) × (byte ≤ 0x7E)) name → is_name name ≡ true
name_bytes [] all = refl
name_bytes (x ∷ xs) all =
    let P : ℕ → Type 0 = λ byte. (0x21 ≤ byte) × (byte ≤ 0x7E) in
    let here = All-head P x xs all in
    let low : nat_le 0x21 x ≡ true = le-leb 0x21 x here.0 in
    let high : nat_le x 0x7E ≡ true = le-leb x 0x7E here.1 in
    rw (low, high) (name_bytes xs (All-tail P x xs all))

bytes_name : (name : List ℕ) → is_name name ≡ true → All (λ byte. (0x21 ≤ byte) × (byte ≤ 0x7E)) name
bytes_name [] e = All-nil (λ byte. (0x21 ≤ byte) × (byte ≤ 0x7E))
bytes_name (x ∷ xs) e =
    let both = and_parts (is_name_byte x) (is_name xs) e in
    let ends = and_parts (nat_le 0x21 x) (nat_le x 0x7E) both.0 in
    All-cons (λ byte. (0x21 ≤ byte) × (byte ≤ 0x7E)) x xs (leb-true 0x21 x ends.0, leb-true x 0x7E ends.1) (bytes_name xs both.1)

pub get_sayable : (name : List ℕ) → IsName name → IsSayable (says.Whole (instruction.Get name))
unfolding instruction_format
get_sayable name is = (tt, ((is.some, is.most), (refl, name_bytes name is.printed)))

pub get_named : (name : List ℕ) → IsSayable (says.Whole (instruction.Get name)) → IsName name
unfolding instruction_format
get_named name is = record { some = is.1.0.0; most = is.1.0.1; printed = bytes_name name is.1.1.1 }

-- ---- readers

pub says_push : (k : Keyword) (x : List ℕ) (n : ℕ) → k ≡ key.Push → IsNumber number_limit x n → SaysWords k (Some x) (says.Whole (instruction.Push n))
says_push k x n is number = record { sayable = push_sayable n number.1; begins = sym is; ends = ap (λ (w : List ℕ). Some w) (sym number.0) }

pub says_no_push : (k : Keyword) (x : List ℕ) → k ≡ key.Push → ((n : ℕ) → IsNumber number_limit x n → ⊥) → (s : Said) → SaysWords k (Some x) s → ⊥
says_no_push k x is none s says =
    let only = push_only s x (says.begins ∙ is) says.ends in
    none only.0 (only.2, push_fits only.0 (subst IsSayable only.1 says.sayable))

pub says_get : (k : Keyword) (x name : List ℕ) → k ≡ key.Get → name ≡ x → IsName x → SaysWords k (Some x) (says.Whole (instruction.Get name))
says_get k x name is same named =
    record { sayable = get_sayable name (subst IsName (sym same) named); begins = sym is; ends = ap (λ (w : List ℕ). Some w) same }

pub says_no_get : (k : Keyword) (x : List ℕ) → k ≡ key.Get → (IsName x → ⊥) → (s : Said) → SaysWords k (Some x) s → ⊥
says_no_get k x is none s says =
    none (get_named x (subst IsSayable (get_only s x (says.begins ∙ is) says.ends) says.sayable))

jump_begins : (kind : Jump) (place : ℕ) → keyword_of (says.Whole (jump_to kind place)) ≡ key.Jump kind
jump_begins jump.Always place = refl
jump_begins jump.IfZero place = refl
jump_begins jump.Calling place = refl

jump_ends : (kind : Jump) (place : ℕ) → operand_of (says.Whole (jump_to kind place)) ≡ Some (decimal place)
jump_ends jump.Always place = refl
jump_ends jump.IfZero place = refl
jump_ends jump.Calling place = refl

pub says_jump : (kind : Jump) (x : List ℕ) (place : ℕ) (i : Instruction) → i ≡ jump_to kind place → IsNumber 65535 x place → SaysWords (key.Jump kind) (Some x) (says.Whole i)
says_jump kind x place i is number =
    subst (λ (j : Instruction). SaysWords (key.Jump kind) (Some x) (says.Whole j)) (sym is)
    (record { sayable = jump_sayable kind place number.1; begins = jump_begins kind place; ends = jump_ends kind place ∙ ap (λ (w : List ℕ). Some w) (sym number.0) })

pub says_no_jump : (kind : Jump) (x : List ℕ) → (IsLabelName x → ⊥) → ((place : ℕ) → IsNumber 65535 x place → ⊥) → (s : Said) → SaysWords (key.Jump kind) (Some x) s → ⊥
says_no_jump kind x label none s says =
    elim (jump_only s kind x says.begins says.ends) [
      | inl place ↦ none place.0 (place.2, jump_fits kind place.0 (subst IsSayable place.1 says.sayable))
      | inr is ↦ label (subst IsSayable is says.sayable)
    ]

-- what a line of these words says
pub line_found : (line word : List ℕ) (k : Keyword) (o : Option (List ℕ)) (r : Option Said) → line ≡ line_of_words word o → word ≡ keyword_word k
    → FindsSome (SaysWords k o) r → FindsSome (SaysAssemblyLine line) r
line_found line word k o (Some s) e is says = record {
  sayable = says.sayable;
  spelled = e ∙ ap (λ (w : List ℕ). line_of_words w o) is ∙ ap (λ (j : Keyword). line_of_words (keyword_word j) o) (sym says.begins)
      ∙ ap (λ (p : Option (List ℕ)). line_of_words (keyword_word (keyword_of s)) p) (sym says.ends);
}
line_found line word k o None e is none = λ s says.
    let parts = same_words word (keyword_word (keyword_of s)) o (operand_of s)
    (subst (Without 32) (sym is) (spaceless (keyword_word k) (keyword_above k))) (spaceless (keyword_word (keyword_of s)) (keyword_above (keyword_of s)))
    (sym e ∙ says.spelled) in
    none s (record { sayable = says.sayable; begins = keyword_same (keyword_of s) k (sym parts.0 ∙ is); ends = sym parts.1 })

-- a line whose first word is no keyword says nothing
pub line_none : (line word : List ℕ) (o : Option (List ℕ)) → line ≡ line_of_words word o → Without 32 word → ((k : Keyword) → word ≡ keyword_word k → ⊥)
    → (s : Said) → SaysAssemblyLine line s → ⊥
line_none line word o e plain none s says =
    let parts = same_words word (keyword_word (keyword_of s)) o (operand_of s) plain (spaceless (keyword_word (keyword_of s)) (keyword_above (keyword_of s))) (sym e ∙ says.spelled) in
    none (keyword_of s) parts.0

-- ---- a line says one thing

same_jump : (b : Said) (kind : Jump) (to : ℕ) → IsSayable (says.Whole (jump_to kind to)) → IsSayable b → keyword_of b ≡ key.Jump kind → operand_of b ≡ Some (decimal to)
    → says.Whole (jump_to kind to) ≡ b
same_jump b kind to sa sb k o =
    let fits = jump_fits kind to sa in
    elim (jump_only b kind (decimal to) k o) [
      | inl place ↦
          let same = decimal_injective to place.0 (omega (arith, fits)) (omega (arith, jump_fits kind place.0 (subst IsSayable place.1 sb))) place.2 in
          ap (λ (n : ℕ). says.Whole (jump_to kind n)) same ∙ sym place.1
      | inr is ↦ absurd (label_no_number (decimal to) to (omega (arith, fits)) (subst IsSayable is sb) refl)
    ]

said_same : (a b : Said) → IsSayable a → IsSayable b → keyword_of a ≡ keyword_of b → operand_of a ≡ operand_of b → a ≡ b
said_same (says.Label name) b sa sb k o = sym (label_only b name (sym k) (sym o))
said_same (says.JumpTo kind name) b sa sb k o =
    elim (jump_only b kind name (sym k) (sym o)) [
      | inl place ↦ absurd (label_no_number name place.0 (omega (arith, jump_fits kind place.0 (subst IsSayable place.1 sb))) sa place.2)
      | inr is ↦ sym is
    ]
said_same (says.Whole (instruction.Plain p)) b sa sb k o = sym (plain_only b p (sym k))
said_same (says.Whole (instruction.Get name)) b sa sb k o = sym (get_only b name (sym k) (sym o))
said_same (says.Whole (instruction.Push n)) b sa sb k o =
    let only = push_only b (decimal n) (sym k) (sym o) in
    let same = decimal_injective n only.0 (omega (arith, push_fits n sa)) (omega (arith, push_fits only.0 (subst IsSayable only.1 sb))) only.2 in
    ap (λ (m : ℕ). says.Whole (instruction.Push m)) same ∙ sym only.1
said_same (says.Whole (instruction.Jump to)) b sa sb k o = same_jump b jump.Always to sa sb (sym k) (sym o)
said_same (says.Whole (instruction.JumpZero to)) b sa sb k o = same_jump b jump.IfZero to sa sb (sym k) (sym o)
said_same (says.Whole (instruction.Call to)) b sa sb k o = same_jump b jump.Calling to sa sb (sym k) (sym o)

pub SaysLine-same : (line : List ℕ) (a b : Said) → SaysAssemblyLine line a → SaysAssemblyLine line b → a ≡ b
SaysLine-same line a b sa sb =
    let parts = same_words (keyword_word (keyword_of a)) (keyword_word (keyword_of b)) (operand_of a) (operand_of b)
    (spaceless (keyword_word (keyword_of a)) (keyword_above (keyword_of a))) (spaceless (keyword_word (keyword_of b)) (keyword_above (keyword_of b)))
    (sym sa.spelled ∙ sb.spelled) in
    said_same a b sa.sayable sb.sayable (keyword_same (keyword_of a) (keyword_of b) parts.0) parts.1

pub says_alone : (k : Keyword) (p : Plain) → k ≡ key.Plain p → SaysWords k None (says.Whole (instruction.Plain p))
says_alone k p is = record { sayable = plain_sayable p; begins = sym is; ends = refl }
