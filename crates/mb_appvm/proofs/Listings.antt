-- How far a code has been listed, and what its text stands for.
use Rattle.std.proofs.Common.{◌≡◌, ◌≢◌, ℕ, ◌+◌, ◌-◌, ◌<◌, ◌≤◌, inl, List, [], ◌∷◌, ◌++◌, length, take, drop, map, refl, sym, ap, ◌∙◌, arith, append_assoc, length-append, length-take, length-drop}
use Rattle.std.specs.Prelude.{All, flat_map, sum_by}
use Rattle.std.specs.List.{AllZip}
use Rattle.std.specs.Fmt.{decimal}
use Rattle.std.proofs.lemmas.List.{take-append-drop, take_all, take_at, flat_map_more}
use Rattle.std.proofs.lemmas.List.Elements.{All-nil, All-cons, All-head, All-tail, All-push, All-append, All-weaker}
use Rattle.std.proofs.lemmas.List.Concat.{flat_map-cons}
use Rattle.std.proofs.lemmas.List.Sums.{sum_by-cons}
use Rattle.mb_model.specs.outside.Texts.{line_with_lf}
use Rattle.mb_model.specs.chains.Lines.{IsLine, text_of}
use Rattle.mb_model.specs.declared.instruction.Instruction.{Instruction}
use Rattle.mb_model.specs.declared.instruction.Instruction.TheVariants as instruction
use Rattle.mb_appvm.specs.declared.keyword.Jump.TheVariants as jump
use Rattle.mb_appvm.specs.declared.lines.Said.{Said}
use Rattle.mb_appvm.specs.declared.lines.Said.TheVariants as says
use Rattle.mb_model.specs.application.Instructions.{instruction_format, Stands}
use Rattle.mb_appvm.specs.Assembly.{keyword_word, keyword_of_instruction, SaysAssemblyLine, size_of, HasTarget, LabelsDiffer, Makes, piece, Assembles}
use Rattle.mb_appvm.specs.Listing.{instruction_line, listing_bytes, IsListing, LacksInstruction}
use Rattle.mb_appvm.proofs.Sizes.{size_plain, size_push, size_jump, size_get}
use Rattle.mb_appvm.proofs.Words.{Above, keyword_above, decimal_above, push_fits, jump_fits, get_named}

pub spelling_some : (i : Instruction) → 0 < length (instruction_format.spelling i)
spelling_some (instruction.Plain p) = omega (arith, size_plain p)
spelling_some (instruction.Push n) = omega (arith, size_push n)
spelling_some (instruction.Jump to) = omega (arith, size_jump jump.Always to)
spelling_some (instruction.JumpZero to) = omega (arith, size_jump jump.IfZero to)
spelling_some (instruction.Call to) = omega (arith, size_jump jump.Calling to)
spelling_some (instruction.Get name) = omega (arith, size_get name)

-- ---- listing

-- the instructions before a place, and the text of them
pub record IsListedTo (code : List ℕ) (place : ℕ) (text : List ℕ) : Type 0 where
  pub listed : List Instruction
  pub allowed : All instruction_format.Allowed listed
  pub within : place ≤ length code
  pub front : take place code ≡ listing_bytes listed
  pub written : text ≡ text_of (map instruction_line listed)

pub take_next : (code : List ℕ) (place next : ℕ) (i : Instruction) → Stands code place i next → take next code ≡ take place code ++ instruction_format.spelling i
take_next code place next i is =
    let within : place ≤ length code = omega (arith, is.ends, is.within) in
    let whole = sym (take-append-drop place code) ∙ ap (λ (x : List ℕ). take place code ++ x) is.here
    ∙ sym (append_assoc (take place code) (instruction_format.spelling i) (drop next code)) in
    let long : length (take place code ++ instruction_format.spelling i) ≡ next =
    omega (arith, length-append (take place code) (instruction_format.spelling i), length-take place code, within, is.ends) in
    ap (take next) whole ∙ take_at (take place code ++ instruction_format.spelling i) (drop next code) next long

pub map_push : {A B : Type 0} (f : A → B) (xs : List A) (x : A) → map f (xs ++ x ∷ []) ≡ map f xs ++ f x ∷ []
map_push f [] x = refl
map_push {A} {B} f (y ∷ xs) x = ap (λ (l : List B). f y ∷ l) (map_push f xs x)

pub list_one : (code : List ℕ) (place next : ℕ) (i : Instruction) (text more : List ℕ) → IsListedTo code place text → Stands code place i next
    → more ≡ text ++ line_with_lf (instruction_line i) → IsListedTo code next more
list_one code place next i text more is stands puts = record {
  listed = is.listed ++ i ∷ [];
  allowed = All-push instruction_format.Allowed is.listed i is.allowed stands.allowed;
  within = stands.within;
  front = take_next code place next i stands ∙ ap (λ (x : List ℕ). x ++ instruction_format.spelling i) is.front
      ∙ flat_map_more instruction_format.spelling [] is.listed i;
  written = puts ∙ ap (λ (x : List ℕ). x ++ line_with_lf (instruction_line i)) is.written
      ∙ flat_map_more line_with_lf [] (map instruction_line is.listed) (instruction_line i)
      ∙ ap text_of (sym (map_push instruction_line is.listed i));
}

pub list_none : (code : List ℕ) → IsListedTo code 0 []
list_none code = record { listed = []; allowed = All-nil instruction_format.Allowed; within = omega arith; front = refl; written = refl }

pub lacks_here : (code : List ℕ) (place : ℕ) (text : List ℕ) → IsListedTo code place text → place < length code
    → ((i : Instruction) (next : ℕ) → Stands code place i next → ⊥) → LacksInstruction code place
lacks_here code place text is some none = record {
  listed = is.listed;
  rest = drop place code;
  allowed = is.allowed;
  split = sym (take-append-drop place code) ∙ ap (λ (x : List ℕ). x ++ drop place code) is.front;
  here = omega (arith, ap length is.front, length-take place code, is.within);
  some = λ empty. omega (arith, some, ap length empty, length-drop place code);
  none = none;
}

pub listed_all : (code : List ℕ) (place : ℕ) (text : List ℕ) → IsListedTo code place text → length code ≤ place → IsListing code text
listed_all code place text is all = record {
  listed = is.listed;
  allowed = is.allowed;
  whole = sym (take_all place code all) ∙ is.front;
  written = is.written;
}

pub goes_down : (code : List ℕ) (place next : ℕ) (i : Instruction) → Stands code place i next → place < length code → length code - next < length code - place
goes_down code place next i is some = omega (arith, is.ends, spelling_some i, some, is.within)

-- ---- what the text stands for

abbrev lines_of : List Instruction → List (List ℕ)
lines_of listed = map instruction_line listed

abbrev whole : Instruction → Said
whole i = says.Whole i

-- no line has an LF in it
pub above_line : (bytes : List ℕ) → Above 32 bytes → IsLine bytes
above_line bytes is = All-weaker (λ (byte : ℕ). 32 < byte) (λ (byte : ℕ). byte ≢ 10) (λ byte least lf. omega (arith, least, lf)) bytes is

joined_line : (word operand : List ℕ) → Above 32 word → Above 32 operand → IsLine (word ++ 32 ∷ operand)
joined_line word operand w o =
    All-append (λ (byte : ℕ). byte ≢ 10) word (32 ∷ operand) (above_line word w)
    (All-cons (λ (byte : ℕ). byte ≢ 10) 32 operand (λ lf. omega (arith, lf)) (above_line operand o))

pub name_above : (name : List ℕ) → All (λ byte. (0x21 ≤ byte) × (byte ≤ 0x7E)) name → Above 32 name
name_above name is = All-weaker (λ (byte : ℕ). (0x21 ≤ byte) × (byte ≤ 0x7E)) (λ (byte : ℕ). 32 < byte) (λ byte printed. omega (arith, printed.0)) name is

pub one_line : (i : Instruction) → instruction_format.Allowed i → IsLine (instruction_line i)
one_line (instruction.Plain p) is = above_line (instruction_line (instruction.Plain p)) (keyword_above (keyword_of_instruction (instruction.Plain p)))
one_line (instruction.Push n) is =
    joined_line (keyword_word (keyword_of_instruction (instruction.Push n))) (decimal n) (keyword_above (keyword_of_instruction (instruction.Push n)))
    (decimal_above n (omega (arith, push_fits n is)))
one_line (instruction.Jump to) is =
    joined_line (keyword_word (keyword_of_instruction (instruction.Jump to))) (decimal to) (keyword_above (keyword_of_instruction (instruction.Jump to)))
    (decimal_above to (omega (arith, jump_fits jump.Always to is)))
one_line (instruction.JumpZero to) is =
    joined_line (keyword_word (keyword_of_instruction (instruction.JumpZero to))) (decimal to) (keyword_above (keyword_of_instruction (instruction.JumpZero to)))
    (decimal_above to (omega (arith, jump_fits jump.IfZero to is)))
one_line (instruction.Call to) is =
    joined_line (keyword_word (keyword_of_instruction (instruction.Call to))) (decimal to) (keyword_above (keyword_of_instruction (instruction.Call to)))
    (decimal_above to (omega (arith, jump_fits jump.Calling to is)))
one_line (instruction.Get name) is =
    let named = get_named name is in
    joined_line (keyword_word (keyword_of_instruction (instruction.Get name))) name (keyword_above (keyword_of_instruction (instruction.Get name)))
    (name_above name named.printed)

pub are_lines : (listed : List Instruction) → All instruction_format.Allowed listed → All IsLine (lines_of listed)
are_lines [] all = All-nil IsLine
are_lines (i ∷ listed) all =
    All-cons IsLine (instruction_line i) (lines_of listed) (one_line i (All-head instruction_format.Allowed i listed all))
    (are_lines listed (All-tail instruction_format.Allowed i listed all))

are_said : (listed : List Instruction) → All instruction_format.Allowed listed → AllZip SaysAssemblyLine (lines_of listed) (map whole listed)
are_said [] all = tt
are_said (i ∷ listed) all = (
  record { sayable = All-head instruction_format.Allowed i listed all; spelled = refl },
  are_said listed (All-tail instruction_format.Allowed i listed all),
)

no_labels : (listed : List Instruction) → LabelsDiffer (map whole listed)
no_labels [] = tt
no_labels (i ∷ listed) = (tt, no_labels listed)

no_targets : (lines : List (List ℕ)) (listed : List Instruction) → All (HasTarget lines) (map whole listed)
no_targets lines [] = All-nil (HasTarget lines)
no_targets lines (i ∷ listed) = All-cons (HasTarget lines) (whole i) (map whole listed) tt (no_targets lines listed)

sizes : (listed : List Instruction) → sum_by size_of (map whole listed) ≡ length (listing_bytes listed)
sizes [] = refl
sizes (i ∷ listed) =
    sum_by-cons size_of (whole i) (map whole listed) ∙ ap (λ (n : ℕ). length (instruction_format.spelling i) + n) (sizes listed)
    ∙ sym (ap length (flat_map-cons instruction_format.spelling i listed) ∙ length-append (instruction_format.spelling i) (listing_bytes listed))

are_made : (all : List Said) (listed : List Instruction) → AllZip (Makes all) (map whole listed) (map instruction_format.spelling listed)
are_made all [] = tt
are_made all (i ∷ listed) = (refl, are_made all listed)

pieces_whole : (listed : List Instruction) → listing_bytes listed ≡ flat_map piece (map instruction_format.spelling listed)
pieces_whole [] = refl
pieces_whole (i ∷ listed) = ap (λ (x : List ℕ). instruction_format.spelling i ++ x) (pieces_whole listed)

pub assembles_again : (code text : List ℕ) → length code ≤ 32768 → IsListing code text → Assembles text code
assembles_again code text short is = record {
  lines = lines_of is.listed;
  has = record { plain = are_lines is.listed is.allowed; whole = inl is.written };
  stands = record {
    said = map whole is.listed;
    right = record {
      worded = are_said is.listed is.allowed;
      labels = no_labels is.listed;
      targets = no_targets (lines_of is.listed) is.listed;
      short = omega (arith, short, sizes is.listed, ap length is.whole);
    };
    pieces = map instruction_format.spelling is.listed;
    made = are_made (map whole is.listed) is.listed;
    whole = is.whole ∙ pieces_whole is.listed;
  };
}
