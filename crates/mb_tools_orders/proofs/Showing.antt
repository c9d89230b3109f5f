-- The text that shows an order.
use Rattle.std.proofs.Common.{◌≡◌, ◌<◌, ◌+◌, ℕ, List, [], ◌∷◌, ◌++◌, length, take, get_or, Bool, true, false, refl, sym, ap, ◌∙◌, append_assoc}
use Rattle.std.specs.Fmt.{decimal}
use Rattle.std.specs.Prelude.{codes, map, if◌then◌else◌}
use Rattle.std.proofs.lemmas.List.{take_more, append-nil, map-append}
use Rattle.mb_model.specs.declared.layer.Trusts.{Trusts}
use Rattle.mb_model.specs.declared.order.Countersignature.{Countersignature}
use Rattle.mb_model.specs.declared.order.Order.{Order}
use Rattle.mb_model.specs.outside.Texts.{line_with_lf}
use Rattle.mb_model.specs.owners.Layers.{are_equal}
use Rattle.mb_model.specs.chains.Lines.{spaced_words, text_of}
use Rattle.mb_model.specs.chains.Drafts.{trust_word, order_words}
use Rattle.mb_model.specs.chains.Listing.{trust_words, number_line}
use Rattle.mb_verifier.proofs.Listed.{text_of-append}
use Rattle.mb_tools_orders.specs.ShowOrder.{target_line, given_trusts_line, act_lines, body_line, countersignature_line, signature_lines, order_shown}

-- one item more, which gives a line
pub lines_more : {A : Type 0} (f : A → List ℕ) (xs : List A) (i : ℕ) (d : A) (start before after : List ℕ) → i < length xs
    → before ≡ start ++ text_of (map f (take i xs)) → after ≡ before ++ line_with_lf (f (get_or xs i d))
    → after ≡ start ++ text_of (map f (take (i + 1) xs))
lines_more f xs i d start before after within was is =
    let front = map f (take i xs) in
    let own = f (get_or xs i d) in
    let lines : map f (take (i + 1) xs) ≡ front ++ own ∷ [] = ap (map f) (take_more xs i d within) ∙ map-append f (take i xs) (get_or xs i d ∷ []) in
    let whole : text_of (map f (take (i + 1) xs)) ≡ text_of front ++ line_with_lf own =
    ap text_of lines ∙ text_of-append front (own ∷ []) ∙ ap (λ t. text_of front ++ t) (append-nil (line_with_lf own)) in
    is ∙ ap (λ t. t ++ line_with_lf own) was ∙ append_assoc start (text_of front) (line_with_lf own) ∙ ap (λ t. start ++ t) (sym whole)

-- lines that were appended one after another
pub two_lines : (a b old mid new : List ℕ) → mid ≡ old ++ line_with_lf a → new ≡ mid ++ line_with_lf b → new ≡ old ++ text_of (a ∷ b ∷ [])
two_lines a b old mid new mid_is new_is =
    new_is ∙ ap (λ t. t ++ line_with_lf b) mid_is ∙ append_assoc old (line_with_lf a) (line_with_lf b)
    ∙ ap (λ t. old ++ (line_with_lf a ++ t)) (sym (append-nil (line_with_lf b)))

pub three_lines : (a b c old one two new : List ℕ) → one ≡ old ++ line_with_lf a → two ≡ one ++ line_with_lf b → new ≡ two ++ line_with_lf c → new ≡ old ++ text_of (a ∷ b ∷ c ∷ [])
three_lines a b c old one two new one_is two_is new_is =
    two_lines b c one two new two_is new_is ∙ ap (λ t. t ++ text_of (b ∷ c ∷ [])) one_is ∙ append_assoc old (line_with_lf a) (text_of (b ∷ c ∷ []))

-- the words of trusts stand after a word as one or two words do
trusts_after : (one two : List ℕ) (equal : Bool)
    → spaced_words (codes "trust" ∷ (if equal then one ∷ [] else one ∷ two ∷ [])) ≡ codes "trust " ++ spaced_words (if equal then one ∷ [] else one ∷ two ∷ [])
trusts_after one two true = refl
trusts_after one two false = refl

pub trusts_told : (trusts : Trusts) (words line : List ℕ) → words ≡ spaced_words (trust_words trusts) → line ≡ codes "trust " ++ (words ++ 10 ∷ [])
    → line ≡ line_with_lf (given_trusts_line trusts)
trusts_told trusts words line words_are is =
    is ∙ ap (λ t. codes "trust " ++ (t ++ 10 ∷ [])) words_are
    ∙ ap line_with_lf (sym (trusts_after (trust_word trusts.one) (trust_word trusts.two) (are_equal trusts)))

-- the line of a countersignature, of whose signature the bytes were counted
pub countersignature_told : (by : Countersignature) (signature line : List ℕ) → signature ≡ by.signature
    → line ≡ codes "countersignature " ++ (decimal by.layer ++ (32 ∷ (decimal (length signature) ++ (10 ∷ []))))
    → line ≡ line_with_lf (countersignature_line by)
countersignature_told by signature line same is =
    is ∙ ap (λ (s : List ℕ). codes "countersignature " ++ (decimal by.layer ++ (32 ∷ (decimal (length s) ++ (10 ∷ []))))) same
    ∙ ap (λ t. codes "countersignature " ++ t) (sym (append_assoc (decimal by.layer) (32 ∷ decimal (length by.signature)) (10 ∷ [])))

regroup : (a b c d e f : List ℕ) → ((((a ++ b) ++ c) ++ d) ++ e) ++ f ≡ a ++ ((b ++ c) ++ (d ++ (e ++ f)))
regroup a b c d e f = simp append_assoc

pub shown_whole : (order : Order) (first second third fourth fifth sixth : List ℕ) → first ≡ line_with_lf (spaced_words (order_words order.act order.layer))
    → second ≡ first ++ text_of (map target_line order.targets) → third ≡ second ++ text_of (act_lines order.act) → fourth ≡ third ++ line_with_lf (body_line order)
    → fifth ≡ fourth ++ line_with_lf (number_line (codes "signature") (length order.signature))
    → sixth ≡ fifth ++ text_of (map countersignature_line order.countersignatures) → sixth ≡ text_of (order_shown order)
unfolding order_shown
shown_whole order first second third fourth fifth sixth first_is second_is third_is fourth_is fifth_is sixth_is =
    let head = line_with_lf (spaced_words (order_words order.act order.layer)) in
    let targets = map target_line order.targets in
    let acts = act_lines order.act in
    let body = line_with_lf (body_line order) in
    let signature = line_with_lf (number_line (codes "signature") (length order.signature)) in
    let above = map countersignature_line order.countersignatures in
    let rest = body_line order ∷ signature_lines order in
    let lines : text_of ((targets ++ acts) ++ rest) ≡ (text_of targets ++ text_of acts) ++ text_of rest =
    text_of-append (targets ++ acts) rest ∙ ap (λ t. t ++ text_of rest) (text_of-append targets acts) in
    sixth_is
    ∙ ap (λ t. t ++ text_of above) (fifth_is ∙ ap (λ t. t ++ signature) (fourth_is ∙ ap (λ t. t ++ body) (third_is ∙ ap (λ t. t ++ text_of acts) (second_is ∙ ap (λ t. t ++ text_of targets) first_is))))
    ∙ regroup head (text_of targets) (text_of acts) body signature (text_of above) ∙ ap (λ t. head ++ t) (sym lines)
