-- The text of a summary, line by line.
use Rattle.std.proofs.Common.{◌≡◌, ℕ, List, [], ◌∷◌, ◌++◌, length, codes, refl, sym, ap, ◌∙◌, arith, append-nil, append_assoc}
use Rattle.std.specs.Fmt.{decimal}
use Rattle.mb_model.specs.declared.event.Answered.{Answered}
use Rattle.mb_model.specs.outside.Texts.{line_with_lf}
use Rattle.mb_model.specs.chains.Lines.{text_of, hex_word, spaced_words}
use Rattle.mb_model.specs.chains.Listing.{summary, replies_that, is_done, is_signed, is_refused}
use Rattle.mb_tools_device.specs.Summaries.{hash_line}

-- six lines are one text
six : (a b c d e f : List ℕ) → ((((a ++ b) ++ c) ++ d) ++ e) ++ f ≡ a ++ (b ++ (c ++ (d ++ (e ++ (f ++ [])))))
six a b c d e f =
    append_assoc (((a ++ b) ++ c) ++ d) e f
    ∙ append_assoc ((a ++ b) ++ c) d (e ++ f)
    ∙ append_assoc (a ++ b) c (d ++ (e ++ f))
    ∙ append_assoc a b (c ++ (d ++ (e ++ f)))
    ∙ ap (λ (x : List ℕ). a ++ (b ++ (c ++ (d ++ (e ++ x))))) (sym (append-nil f))

-- a hash is not empty, so that its word is not a dash
hash_is : (hash : List ℕ) → length hash ≡ 32 → hash_line hash ≡ spaced_words (codes "image" ∷ hex_word hash ∷ [])
hash_is [] sized = absurd (omega (arith, sized))
hash_is (byte ∷ bytes) sized = refl

abbrev pub number_text : List ℕ → ℕ → List ℕ
number_text name n = line_with_lf (name ++ decimal n)

pub summed : (answered : List Answered) (log_length done signed refused : ℕ) (hash : List ℕ) {one two three four five six_th : List ℕ}
    → done ≡ replies_that is_done answered → signed ≡ replies_that is_signed answered → refused ≡ replies_that is_refused answered → length hash ≡ 32
    → one ≡ number_text (codes "events ") (length answered) → two ≡ one ++ number_text (codes "done ") done → three ≡ two ++ number_text (codes "signed ") signed
    → four ≡ three ++ number_text (codes "refused ") refused → five ≡ four ++ number_text (codes "length ") log_length → six_th ≡ five ++ line_with_lf (hash_line hash)
    → six_th ≡ text_of (summary answered log_length hash)
unfolding summary
summed answered log_length done signed refused hash done_is signed_is refused_is sized is_one is_two is_three is_four is_five is_six =
    let told : ℕ → ℕ → ℕ → List ℕ → List ℕ = λ d s r last.
    ((((number_text (codes "events ") (length answered) ++ number_text (codes "done ") d) ++ number_text (codes "signed ") s)
    ++ number_text (codes "refused ") r) ++ number_text (codes "length ") log_length) ++ line_with_lf last in
    is_six
    ∙ ap (λ (t : List ℕ). t ++ line_with_lf (hash_line hash)) (is_five
    ∙ ap (λ (t : List ℕ). t ++ number_text (codes "length ") log_length) (is_four
    ∙ ap (λ (t : List ℕ). t ++ number_text (codes "refused ") refused) (is_three
    ∙ ap (λ (t : List ℕ). t ++ number_text (codes "signed ") signed) (is_two
    ∙ ap (λ (t : List ℕ). t ++ number_text (codes "done ") done) is_one))))
    ∙ ap (λ d. told d signed refused (hash_line hash)) done_is
    ∙ ap (λ s. told (replies_that is_done answered) s refused (hash_line hash)) signed_is
    ∙ ap (λ r. told (replies_that is_done answered) (replies_that is_signed answered) r (hash_line hash)) refused_is
    ∙ ap (λ (l : List ℕ). told (replies_that is_done answered) (replies_that is_signed answered) (replies_that is_refused answered) l) (hash_is hash sized)
    ∙ six (number_text (codes "events ") (length answered)) (number_text (codes "done ") (replies_that is_done answered))
    (number_text (codes "signed ") (replies_that is_signed answered)) (number_text (codes "refused ") (replies_that is_refused answered))
    (number_text (codes "length ") log_length) (line_with_lf (spaced_words (codes "image" ∷ hex_word hash ∷ [])))
