-- What is drawn for a workload is one thing: a number and a number of rounds say it all.
use Rattle.std.proofs.Common.{◌≡◌, ℕ, zero, suc, ◌+◌, ◌*◌, ◌%◌, List, [], ◌∷◌, ◌++◌, length, take, refl, sym, ap, subst, ◌∙◌, arith, append_assoc}
use Rattle.std.specs.Prelude.{flat_map}
use Rattle.std.specs.List.{AllZip, concat}
use Rattle.std.specs.Int.{w32, to_be_bytes}
use Rattle.rand_core.specs.Steps.{first_words}
use Rattle.mb_model.proofs.KeyLemmas.{same_parts}
use Rattle.mb_model_commands.specs.Workload.{generator_words, DrawnBytes, DrawnSized, RoundDraws, DrawnRound, Draws, DrawnInOrder}
use Rattle.mb_model_lemmas.proofs.LineLemmas.{cons_same}

-- ---- the words of the generator

-- fewer words are the first of more
words_front : {S : Type 0} (step : S → ℕ × S) (m n : ℕ) (s : S) → (rest : List ℕ) × (first_words step (m + n) s ≡ first_words step m s ++ rest)
unfolding first_words
words_front {S} step zero n s = (first_words step (0 + n) s, refl)
words_front {S} step (suc m) n s =
    let rest = words_front step m n (step s).1 in
    let count : suc m + n ≡ suc (m + n) = omega arith in
    (rest.0, ap (λ (k : ℕ). first_words step k s) count ∙ ap (λ (ws : List ℕ). (step s).0 ∷ ws) rest.1)

-- two beginnings of one stream go on to one list
one_stream : (number : ℕ) (v w : List ℕ) → v ≡ generator_words number (length v) → w ≡ generator_words number (length w)
    → (x : List ℕ) × (y : List ℕ) × (v ++ x ≡ w ++ y)
unfolding generator_words
one_stream number v w gv gw =
    let count : length v + length w ≡ length w + length v = omega arith in
    let fv = words_front _ (length v) (length w) _ in
    let fw = words_front _ (length w) (length v) _ in
    (fv.0, fw.0, ap (λ (z : List ℕ). z ++ fv.0) gv ∙ sym fv.1 ∙ ap (λ (k : ℕ). generator_words number k) count ∙ fw.1 ∙ ap (λ (z : List ℕ). z ++ fw.0) (sym gw))

-- ---- what words are drawn for

bytes_front : (n : ℕ) (a b c d x y : List ℕ) → DrawnBytes n a c → DrawnBytes n b d → a ++ x ≡ b ++ y → (c ≡ d) × (x ≡ y)
bytes_front n a b c d x y da db e =
    let parts = same_parts a b x y (da.count ∙ sym db.count) e in
    (da.given ∙ ap (λ (z : List ℕ). take n (flat_map (to_be_bytes w32) z)) parts.0 ∙ sym db.given, parts.1)

sized_front : (size : ℕ → ℕ) (a b c d x y : List ℕ) → DrawnSized size a c → DrawnSized size b d → a ++ x ≡ b ++ y → (c ≡ d) × (x ≡ y)
sized_front size a b c d x y da db e =
    let whole = sym (ap (λ (z : List ℕ). z ++ x) da.split) ∙ e ∙ ap (λ (z : List ℕ). z ++ y) db.split in
    let parts = cons_same da.first db.first (da.others ++ x) (db.others ++ y) whole in
    bytes_front (size db.first) da.others db.others c d x y
    (subst (λ (k : ℕ). DrawnBytes (size k) da.others c) parts.0 da.drawn) db.drawn parts.1

-- the same for lists of them
values_front : (size : ℕ → ℕ) (ws vs cs ds : List (List ℕ)) (x y : List ℕ) → length cs ≡ length ds → AllZip (DrawnSized size) ws cs → AllZip (DrawnSized size) vs ds
    → concat ws ++ x ≡ concat vs ++ y → (cs ≡ ds) × (x ≡ y)
values_front size [] [] [] [] x y len hw hv e = (refl, e)
values_front size [] [] [] (d ∷ ds) x y len hw hv e = absurd hv
values_front size [] [] (c ∷ cs) ds x y len hw hv e = absurd hw
values_front size [] (v ∷ vs) [] [] x y len hw hv e = absurd hv
values_front size [] (v ∷ vs) [] (d ∷ ds) x y len hw hv e = absurd (omega (arith, len))
values_front size [] (v ∷ vs) (c ∷ cs) ds x y len hw hv e = absurd hw
values_front size (w ∷ ws) vs [] ds x y len hw hv e = absurd hw
values_front size (w ∷ ws) [] (c ∷ cs) [] x y len hw hv e = absurd (omega (arith, len))
values_front size (w ∷ ws) [] (c ∷ cs) (d ∷ ds) x y len hw hv e = absurd hv
values_front size (w ∷ ws) (v ∷ vs) (c ∷ cs) [] x y len hw hv e = absurd hv
values_front size (w ∷ ws) (v ∷ vs) (c ∷ cs) (d ∷ ds) x y len hw hv e =
    let flat = sym (append_assoc w (concat ws) x) ∙ e ∙ append_assoc v (concat vs) y in
    let here = sized_front size w v c d (concat ws ++ x) (concat vs ++ y) hw.0 hv.0 flat in
    let rest = values_front size ws vs cs ds x y (omega (arith, len)) hw.1 hv.1 here.1 in
    let first = here.0 in
    let others = rest.0 in
    (cc, rest.1)

round_front : (a b : List ℕ) (r s : RoundDraws) (x y : List ℕ) → DrawnRound a r → DrawnRound b s → a ++ x ≡ b ++ y → (r ≡ s) × (x ≡ y)
round_front a b r s x y dr ds e =
    let whole = sym (ap (λ (z : List ℕ). z ++ x) dr.in_order) ∙ e ∙ ap (λ (z : List ℕ). z ++ y) ds.in_order in
    let flat = simp append_assoc at whole in
    let code = sized_front (λ word. 1024 + word % 31745) dr.for_code ds.for_code r.code s.code _ _ dr.code ds.code flat in
    let values = values_front (λ word. word % 129) dr.for_values ds.for_values r.values s.values _ _ (dr.four ∙ sym ds.four) dr.values ds.values code.1 in
    let message = bytes_front 32 dr.for_message ds.for_message r.message s.message x y dr.message ds.message values.1 in
    let c = code.0 in
    let v = values.0 in
    let m = message.0 in
    ((λ i. record { code = c i; values = v i; message = m i }), message.1)

rounds_front : (ws vs : List (List ℕ)) (rs ss : List RoundDraws) (x y : List ℕ) → length rs ≡ length ss → AllZip DrawnRound ws rs → AllZip DrawnRound vs ss
    → concat ws ++ x ≡ concat vs ++ y → (rs ≡ ss) × (x ≡ y)
rounds_front [] [] [] [] x y len hw hv e = (refl, e)
rounds_front [] [] [] (d ∷ ds) x y len hw hv e = absurd hv
rounds_front [] [] (c ∷ cs) ds x y len hw hv e = absurd hw
rounds_front [] (v ∷ vs) [] [] x y len hw hv e = absurd hv
rounds_front [] (v ∷ vs) [] (d ∷ ds) x y len hw hv e = absurd (omega (arith, len))
rounds_front [] (v ∷ vs) (c ∷ cs) ds x y len hw hv e = absurd hw
rounds_front (w ∷ ws) vs [] ds x y len hw hv e = absurd hw
rounds_front (w ∷ ws) [] (c ∷ cs) [] x y len hw hv e = absurd (omega (arith, len))
rounds_front (w ∷ ws) [] (c ∷ cs) (d ∷ ds) x y len hw hv e = absurd hv
rounds_front (w ∷ ws) (v ∷ vs) (c ∷ cs) [] x y len hw hv e = absurd hv
rounds_front (w ∷ ws) (v ∷ vs) (c ∷ cs) (d ∷ ds) x y len hw hv e =
    let flat = sym (append_assoc w (concat ws) x) ∙ e ∙ append_assoc v (concat vs) y in
    let here = round_front w v c d (concat ws ++ x) (concat vs ++ y) hw.0 hv.0 flat in
    let rest = rounds_front ws vs cs ds x y (omega (arith, len)) hw.1 hv.1 here.1 in
    let first = here.0 in
    let others = rest.0 in
    (cc, rest.1)

all_front : (rounds : ℕ) (a b : List ℕ) (d f : Draws) (x y : List ℕ) → DrawnInOrder a rounds d → DrawnInOrder b rounds f → a ++ x ≡ b ++ y → d ≡ f
all_front rounds a b d f x y da db e =
    let whole = sym (ap (λ (z : List ℕ). z ++ x) da.in_order) ∙ e ∙ ap (λ (z : List ℕ). z ++ y) db.in_order in
    let flat = simp append_assoc at whole in
    let root = bytes_front 32 da.for_root db.for_root d.root f.root _ _ da.root db.root flat in
    let one = bytes_front 32 da.for_one db.for_one d.officer_one f.officer_one _ _ da.officer_one db.officer_one root.1 in
    let two = bytes_front 32 da.for_two db.for_two d.officer_two f.officer_two _ _ da.officer_two db.officer_two one.1 in
    let three = bytes_front 32 da.for_three db.for_three d.officer_three f.officer_three _ _ da.officer_three db.officer_three two.1 in
    let factory = bytes_front 48 da.for_factory db.for_factory d.factory f.factory _ _ da.factory db.factory three.1 in
    let code = λ (word : ℕ). 1024 + word % 31745 in
    let code_one = sized_front code da.for_code_one db.for_code_one d.code_one f.code_one _ _ da.code_one db.code_one factory.1 in
    let code_two = sized_front code da.for_code_two db.for_code_two d.code_two f.code_two _ _ da.code_two db.code_two code_one.1 in
    let code_three = sized_front code da.for_code_three db.for_code_three d.code_three f.code_three _ _ da.code_three db.code_three code_two.1 in
    let all = rounds_front da.for_rounds db.for_rounds d.rounds f.rounds _ _ (da.all_rounds ∙ sym db.all_rounds) da.each_round db.each_round code_three.1 in
    let noise = bytes_front (32 * (5 + rounds)) da.for_noise db.for_noise d.noise f.noise x y da.noise db.noise all.1 in
    let e_root = root.0 in
    let e_one = one.0 in
    let e_two = two.0 in
    let e_three = three.0 in
    let e_factory = factory.0 in
    let e_code_one = code_one.0 in
    let e_code_two = code_two.0 in
    let e_code_three = code_three.0 in
    let e_rounds = all.0 in
    let e_noise = noise.0 in
    λ i. record {
      root = e_root i;
      officer_one = e_one i;
      officer_two = e_two i;
      officer_three = e_three i;
      factory = e_factory i;
      code_one = e_code_one i;
      code_two = e_code_two i;
      code_three = e_code_three i;
      rounds = e_rounds i;
      noise = e_noise i;
    }

pub one_workload : (number rounds : ℕ) (v w : List ℕ) (d e : Draws) → v ≡ generator_words number (length v) → w ≡ generator_words number (length w)
    → DrawnInOrder v rounds d → DrawnInOrder w rounds e → d ≡ e
one_workload number rounds v w d e gv gw dv dw =
    let stream = one_stream number v w gv gw in
    all_front rounds v w d e stream.0 stream.1 dv dw stream.2
