-- The signed order, verified by computing. A declaration may take so many steps and no more, so the chains of the one-time
-- key are computed in rows of a few.
use Rattle.std.proofs.Common.{◌≡◌, ℕ, zero, suc, ◌+◌, ◌^◌, ◌≤◌, List, [], ◌∷◌, ◌++◌, length, take, drop, get_or, inl, inr, refl, sym, ap, ◌∙◌, arith, append_assoc, append-nil, lit<, lit≤, add-suc}
use Rattle.std.specs.Prelude.{codes}
use Rattle.std.specs.Int.{w32, to_be_bytes, from_be_bytes}
use Rattle.std.proofs.lemmas.List.{take-append-le, drop-append-le, length-drop}
use Rattle.mb_model.specs.outside.Pieces.{part}
use Rattle.std.proofs.lemmas.List.Elements.{All-nil}
use Rattle.sha2.specs.Sha256.{first_words, schedule, rounds, compress, hash_after, digest_bytes, sha256}
use Rattle.hex.specs.Hex.{decode_pairs}
use Rattle.mb_format.specs.Combinators.{number_bytes, items}
use Rattle.mb_format.specs.Reading.{raw_at, number_at}
use Rattle.mb_model.specs.declared.key.Chains.TheVariants.{W4}
use Rattle.mb_model.specs.records.KeyFormat.{public_key_format}
use Rattle.mb_model.specs.records.LayerFormat.{trust_format}
use Rattle.mb_model.specs.owners.Log.{number_of, uses_of_device_key}
use Rattle.mb_model.specs.records.OrderFormat.{target_format, payload_format, body_format, sized_signature_format, countersignatures_format, order_format, order_body}
use Rattle.mb_model.specs.machine.SignedTexts.{order_text}
use Rattle.mb_model.specs.signatures.Winternitz.{coef, shortfall, checksum, digits_of, message_hash, one_time_key_mark, chain_step, value_after_count, value_after_steps, value_at, chain_ends, one_time_key}
use Rattle.mb_model.specs.signatures.Merkle.{leaf_node, inner_node, parent_node, climb, leaf_number, randomizer, chain_values, path_in, root_from, hash_of, HasForm, Verifies}
use Rattle.mb_model.specs.declared.reply.OrderRefusal.TheVariants.{WrongSignature}
use Rattle.mb_model.specs.machine.OrderChecks.{TargetHoldsIn, view_of}
use Rattle.mb_model.specs.machine.OrderEffects.{entry_signed_by, state_after_succession, state_after_change}
use Rattle.mb_model.specs.machine.OrderEffects.{state_after_order}
use Rattle.mb_model.specs.machine.OrderStep.{fails_check, is_obeyed}
use Rattle.mb_model.proofs.OrderFormatLaws.{order_exact}
use Rattle.mb_model_examples.specs.RecordValues.{bytes_of}
use Rattle.mb_model_examples.specs.SignedOrder.{owner_one, unended_signature, good_signature, flipped_signature, establish_order, order_bytes, newborn, VerifiedOrders}
use Rattle.mb_model_examples.proofs.RecordProofs.{spells}
use Rattle.mb_model_examples.proofs.OrderProofs.{plain_passes}

-- ---- chains in rows

-- the ends of n chains, from chain a on
ends_from : List ℕ → ℕ → List ℕ → List ℕ → ℕ → ℕ → List ℕ
ends_from id q digits values a zero = []
ends_from id q digits values a (suc n) =
    ends_from id q digits values a n ++ value_after_steps id q (a + n) (coef digits (a + n) 4) 15 (value_at values (a + n))

chain_ends-more : (id : List ℕ) (q : ℕ) (digits values : List ℕ) (a n : ℕ) → chain_ends id q 4 digits values (a + n) ≡ chain_ends id q 4 digits values a ++ ends_from id q digits values a n
unfolding chain_ends ends_from
chain_ends-more id q digits values a zero =
    let same : a + 0 ≡ a = omega arith in
    ap (chain_ends id q 4 digits values) same ∙ sym (append-nil (chain_ends id q 4 digits values a))
chain_ends-more id q digits values a (suc n) =
    rw add-suc
    (ap (λ (ends : List ℕ). ends ++ value_after_steps id q (a + n) (coef digits (a + n) 4) 15 (value_at values (a + n))) (chain_ends-more id q digits values a n)
    ∙ append_assoc (chain_ends id q 4 digits values a) (ends_from id q digits values a n) (value_after_steps id q (a + n) (coef digits (a + n) 4) 15 (value_at values (a + n))))

no_chains : (id : List ℕ) (q : ℕ) (digits values : List ℕ) → chain_ends id q 4 digits values 0 ≡ []
unfolding chain_ends
no_chains id q digits values = refl

more_chains : (id : List ℕ) (q : ℕ) (digits values : List ℕ) (a n : ℕ) (before row : List ℕ) → chain_ends id q 4 digits values a ≡ before → ends_from id q digits values a n ≡ row
    → chain_ends id q 4 digits values (a + n) ≡ before ++ row
more_chains id q digits values a n before row first second =
    chain_ends-more id q digits values a n ∙ ap (λ (ends : List ℕ). ends ++ ends_from id q digits values a n) first ∙ ap (λ (ends : List ℕ). before ++ ends) second

-- ---- the values on the way

abbrev text : List ℕ
text = order_text (order_body (establish_order good_signature))

abbrev values : List ℕ
values = chain_values 67 good_signature

abbrev digits : List ℕ
digits = bytes_of (codes "472524315d6281770ee20cf0f564e372df314fe70ecb4896ccb4f63671b32c1120f0")

abbrev one_time : List ℕ
one_time = bytes_of (codes "b0f0c334eed2141f1e44c078b5d2a97689d250b938499285d45b37cf3c6a2081")

abbrev row_0 : List ℕ
row_0 =
    bytes_of (codes "7ce7389b54976b7e5cd1f4f9b33404d1aa0194a910e40f3326ad937228e38653ab46507d0a172df311cc2da044ed17439f1f8543bc9433351fb573d7ca8942c5"
    ++ codes "23ae88bcdb2c7f665afd633dcab5798a400c687bb0e9d66488bf33e7f00451acd66381531a0c2b854a708237128607963d38ac150b73113c50b0ed73c58fdafd"
    ++ codes "ec0c267889b35fe63e5658e7f0d88384535170093be73b5a7fdffe77441fda17f287e5118e3265d90112c65179ddfab1b660fcd88d89c0a5ed44a6a155220a24"
    ++ codes "59a686fe11d81ac5b0c888a84a4ee2047f43f4c6d2ea6dcee3b2b8adeba9ab5c386f97efcc7b98d94492364e8cb4bdc22cd3cae364a915090e334d34d997ef7c"
    ++ codes "9acd4cba217dddedfd4c5279607fdb3bf06036442dbb60de51a1575ae91440739ddee74d5f14b039b2fb032465c3a80693f4aa51b89b3836a1fc94057a1520c0"
    ++ codes "a5fcedfdc616e1b312d7f1c81e963b8dd487f2a63bbffe90bde144a795e255aeebd34e81040c98cf0dc487bd88fe2a63c96c3d2c595e0de4f768a03a86d1e156")

abbrev row_1 : List ℕ
row_1 =
    bytes_of (codes "96d08a20fb0d3bc45f73dfb1008f785cdb112cb53d245834e679014d10a266d023beefebc94139e00a8a7b71f75c1f0abba9733fff1cbfa14101cfbfcb36baa8"
    ++ codes "9e438868f04aeaf9a92b66f2dbd89b232ba1e29d10d0deb8a39ac503093d12e28354995519aed4c4308ec7c20f2eb142c942b45bb1f7c4129fca0cdc4da2f057"
    ++ codes "0abc12c70964904e14ef3eb48ac36799a3fac923ae49ec65b0d2c57218c4fa1a20ff4a854e2e69b723125e0c065ffe427f1241f35f20c7b89ccf16cf2de0c685"
    ++ codes "e8961779573674285b93e8d6bd78bfa397b2322781a9a91952d42ae1bee28580a3105429e71d513ce21d089f98d7421a9e56d5a50bdfcda2ec7a824b368d447d"
    ++ codes "64cfe98d961c78df9afc9fee1173b9265555101f038f3f56bfd2d36ba706274ee056d719c2dc7248722f1150954bfbec7501231669e5fe48c36a615e2c573655"
    ++ codes "61a49c443f4f97de93107b9f8f7cfb4f77c67ea904dcc1644ee41bead4a76247")

abbrev row_2 : List ℕ
row_2 =
    bytes_of (codes "a057bd2c20d47c24469eb8089183a1751b1567bc20cc59cdba565a46d26811803c5c19d14fd3d549ccab70a35b63f23951edc67695d435ceef584aaa7612c778"
    ++ codes "e133f87bffcdcc6bf302ebe2733dcd632540983baae23b6e24362459701d3ee45c311565a8314af4ef2d7f82fd41e79e703a9ce94d7bbd9fb1a2da47072518d2"
    ++ codes "949de88d2915369322e111fdd0604d55d2adc4fa15dfcd07c322bf6ecf6db4f9eceab50505a5c83e9bf3610edf9084457f3f67835641317d5e06569cb264a018"
    ++ codes "5d8ae75b9e36a769c8e657b8a75b286810b78bbc224ea8027a0c666837169bc014d376040e7b530ed9e27e587ea6d952ecd7a1bc3e8041fdbfab8be84ba122f2"
    ++ codes "ab55c5e5725fcb802168d26f8db2747f3b4aee4000ff9ff0954206db437acbe59647fd4092f3d1418c387c1f7ab60b5be2cceb155084674ee0b4407dd3782fc0"
    ++ codes "6b805713c6533602808dd2ccc748bc77064daa047744deae0dd16988ebf6cf8e")

abbrev row_3 : List ℕ
row_3 =
    bytes_of (codes "f304189fc8a1aa2edc3e66dab406cf433e735d0d602a8268a7eecc4acfd39d6fa64ed16cb915730df44296a61322cdfda9f18c48cbd5223465ee92c7338d737b"
    ++ codes "0cff615e9375574ffcac0488bb1fb7c5e3890df13dce7b16cd962ee57bdf8bd924d0e9fd9b735f5bb8e88236752df4b1e86868d792d3d774a71412db639e880b"
    ++ codes "e4e77b78b5e88b23716967437759d27ed5bca3e23bf1b6cdf4ef6e72c3af735c50e4e44338cd65c7400b0560bac7b4c8641b163336e21925096961fa531e4581"
    ++ codes "a2409a25b2b977e78b9012f53841fa6a7c8885d910abc396c24130ddceac36bb655c24fb9fb7a7303b45492d3ac6ca813db95678ec62bca3631800c759850fa0"
    ++ codes "c30582dca6c777664c048252366bfb888c1f5a7c5e3fd513ab0a8830204b3e7d567d747205c7ee98846fc489e15ecc7f01702f7b1c50d739d7682218e32d9db7"
    ++ codes "0c437622437d4396e23244b93c786ae11f34ac8b59d4a49190ec3fbd802985a7")

abbrev row_4 : List ℕ
row_4 =
    bytes_of (codes "e86049f0436ba240d9a9a2a16ca0dd8baa1a4109a512abf7f1082c7cdfae8a7b7c0917562e310a422e58e51ff205c7828e41d0e845994fbdbe80083932dda0f3"
    ++ codes "efa4770eabcb975357c363bcb824fe42be166e999e522f42c7a62ce5de67925c2bd458ac5a28b45b6e3854259b36a33a08094478fbd302ed137ed5ba677df688"
    ++ codes "50971c1b27ae88e43d5c656bfedfcb26852d7b1e5cec081355839919692f59c55b64e307fa6e24b2f3d40cdf6fd6e77c3001b8c65872ba6bd98b18040a09c1fc"
    ++ codes "8dcd89c4d57fc82b35fa7db81603dd23c92142c3827f1ebf9f32b2a74bb6dffedc259d39b42c6a527aba7ae789ce606daa106a9cb16966dd0a75e47e18d96def"
    ++ codes "d68fa5e98645ae115164a8ad009fbd03148774b4f10adb5c9ae65131eca5af62c514e76d767f5e96aba44681c52a35ff63b4f86cc979af42a2b507983e86ffde"
    ++ codes "e8b968d095ee807ef36a62b1d35fb72742b4d12dd4aca19f7b3fa975e46d4a45")

abbrev row_5 : List ℕ
row_5 =
    bytes_of (codes "86b404259754c39843d0906d30047745c18c3d431036ab47f038f78e4abd8b058a1fc2ecc2ff9cecf2b02a82658f03c795fa58a41294275eabe5534ad622e294"
    ++ codes "5c0607402951a6352e24a4091c62862b7defe53885796094ff9c5620ab0365f77f8ee80e20ed6240a2e096da7bd6da3cacce058838ec5c96a18cd3ebc8055d82"
    ++ codes "593960e2e8dfeb772d2d66f8c04d0705801c3ade1b6d014fff55381738b7a9e4256cb8fbf82fe6892e5bbfafcaf6cc6fbb65bc489e4fd3b804089ed269490555"
    ++ codes "563fd2aafe63d0050c5437ade1c5f4cbd7a76eea0496f0d3c8a4229780f5cb3329499deced01e96d2096dfd85ab0b66196ecf978070354010d35d65b40ce4645"
    ++ codes "8f42888b1a0daad6a04dfb7e9c577dd31839907280594b6da2175c28bbe80cc646ffa70540b215fb4c539448e1f94f51b73b466b59add177a44253abd9b99f23"
    ++ codes "f3637f117e864190eeb06b00a5623401b6d814ac07d4747d17eacd3fa0d6c04b")

row_0-is : ends_from owner_one.identifier 0 digits values 0 12 ≡ row_0
unfolding first_words schedule rounds compress hash_after digest_bytes sha256 decode_pairs coef chain_step value_after_count ends_from
row_0-is = refl

row_1-is : ends_from owner_one.identifier 0 digits values 12 11 ≡ row_1
unfolding first_words schedule rounds compress hash_after digest_bytes sha256 decode_pairs coef chain_step value_after_count ends_from
row_1-is = refl

row_2-is : ends_from owner_one.identifier 0 digits values 23 11 ≡ row_2
unfolding first_words schedule rounds compress hash_after digest_bytes sha256 decode_pairs coef chain_step value_after_count ends_from
row_2-is = refl

row_3-is : ends_from owner_one.identifier 0 digits values 34 11 ≡ row_3
unfolding first_words schedule rounds compress hash_after digest_bytes sha256 decode_pairs coef chain_step value_after_count ends_from
row_3-is = refl

row_4-is : ends_from owner_one.identifier 0 digits values 45 11 ≡ row_4
unfolding first_words schedule rounds compress hash_after digest_bytes sha256 decode_pairs coef chain_step value_after_count ends_from
row_4-is = refl

row_5-is : ends_from owner_one.identifier 0 digits values 56 11 ≡ row_5
unfolding first_words schedule rounds compress hash_after digest_bytes sha256 decode_pairs coef chain_step value_after_count ends_from
row_5-is = refl

digits-are : digits_of W4 (message_hash owner_one.identifier 0 (randomizer good_signature) text) ≡ digits
unfolding first_words schedule rounds compress hash_after digest_bytes sha256 decode_pairs number_bytes items public_key_format trust_format body_format order_text coef shortfall checksum digits_of message_hash
digits-are = refl

abbrev all_rows : List ℕ
all_rows = ((((row_0 ++ row_1) ++ row_2) ++ row_3) ++ row_4) ++ row_5

all_ends : chain_ends owner_one.identifier 0 4 digits values 67 ≡ all_rows
all_ends =
    let upto_0 : chain_ends owner_one.identifier 0 4 digits values 12 ≡ row_0 = more_chains owner_one.identifier 0 digits values 0 12 [] row_0 (no_chains owner_one.identifier 0 digits values) row_0-is in
    let upto_1 : chain_ends owner_one.identifier 0 4 digits values 23 ≡ (row_0 ++ row_1) = more_chains owner_one.identifier 0 digits values 12 11 row_0 row_1 upto_0 row_1-is in
    let upto_2 : chain_ends owner_one.identifier 0 4 digits values 34 ≡ ((row_0 ++ row_1) ++ row_2) = more_chains owner_one.identifier 0 digits values 23 11 (row_0 ++ row_1) row_2 upto_1 row_2-is in
    let upto_3 : chain_ends owner_one.identifier 0 4 digits values 45 ≡ (((row_0 ++ row_1) ++ row_2) ++ row_3) = more_chains owner_one.identifier 0 digits values 34 11 ((row_0 ++ row_1) ++ row_2) row_3 upto_2 row_3-is in
    let upto_4 : chain_ends owner_one.identifier 0 4 digits values 56 ≡ ((((row_0 ++ row_1) ++ row_2) ++ row_3) ++ row_4) = more_chains owner_one.identifier 0 digits values 45 11 (((row_0 ++ row_1) ++ row_2) ++ row_3) row_4 upto_3 row_4-is in
    let upto_5 : chain_ends owner_one.identifier 0 4 digits values 67 ≡ (((((row_0 ++ row_1) ++ row_2) ++ row_3) ++ row_4) ++ row_5) = more_chains owner_one.identifier 0 digits values 56 11 ((((row_0 ++ row_1) ++ row_2) ++ row_3) ++ row_4) row_5 upto_4 row_5-is in
    upto_5

one_time-hash : sha256 (owner_one.identifier ++ to_be_bytes w32 0 ++ one_time_key_mark ++ all_rows) ≡ one_time
unfolding first_words schedule rounds compress hash_after digest_bytes sha256 decode_pairs
one_time-hash = refl

one_time-is : one_time_key W4 owner_one.identifier 0 digits values ≡ one_time
unfolding one_time_key
one_time-is = ap (λ (ends : List ℕ). sha256 (owner_one.identifier ++ to_be_bytes w32 0 ++ one_time_key_mark ++ ends)) all_ends ∙ one_time-hash

-- the top node to which a signature with the same leaf, randomizer and values leads, by its path
root_of : (sig : List ℕ) → leaf_number sig ≡ 0 → randomizer sig ≡ randomizer good_signature → chain_values 67 sig ≡ values
    → root_from owner_one (hash_of owner_one text sig) sig ≡ climb owner_one.identifier 32 (leaf_node owner_one.identifier 32 one_time) (path_in 67 sig) 5
unfolding root_from hash_of
root_of sig leaf same_randomizer same_values =
    let reached : ℕ → List ℕ → List ℕ → List ℕ
    = λ q randomizer values. climb owner_one.identifier (2 ^ 5 + q) (leaf_node owner_one.identifier (2 ^ 5 + q) (one_time_key W4 owner_one.identifier q (digits_of W4 (message_hash owner_one.identifier q randomizer text)) values)) (path_in 67 sig) 5 in
    let from_key : List ℕ → List ℕ = λ key. climb owner_one.identifier 32 (leaf_node owner_one.identifier 32 key) (path_in 67 sig) 5 in
    ap (λ (q : ℕ). reached q (randomizer sig) (chain_values 67 sig)) leaf
    ∙ ap (λ (r : List ℕ). reached 0 r (chain_values 67 sig)) same_randomizer
    ∙ ap (λ (v : List ℕ). reached 0 (randomizer good_signature) v) same_values
    ∙ ap (λ (d : List ℕ). from_key (one_time_key W4 owner_one.identifier 0 d values)) digits-are
    ∙ ap from_key one_time-is

good_climb : climb owner_one.identifier 32 (leaf_node owner_one.identifier 32 one_time) (path_in 67 good_signature) 5 ≡ owner_one.root
unfolding first_words schedule rounds compress hash_after digest_bytes sha256 decode_pairs leaf_node inner_node parent_node climb
good_climb = refl

good_leaf : leaf_number good_signature ≡ 0
unfolding decode_pairs
good_leaf = refl

good_root : root_from owner_one (hash_of owner_one text good_signature) good_signature ≡ owner_one.root
good_root = root_of good_signature good_leaf refl refl ∙ good_climb

good_form : HasForm owner_one good_signature
unfolding decode_pairs
good_form = record { sized = refl; chains = refl; tree = refl; leaf = lit< tt }

good : Verifies owner_one text good_signature
good = record { form = good_form; root = good_root }

unended-length : length unended_signature ≡ 2347
unfolding decode_pairs
unended-length = refl

-- a piece of a list does not depend on what stands after it
part_before : (xs ys zs : List ℕ) (at n : ℕ) → at + n ≤ length xs → part at n (xs ++ ys) ≡ part at n (xs ++ zs)
part_before xs ys zs at n within = piece ys ∙ sym (piece zs)
  where
    piece : (ends : List ℕ) → part at n (xs ++ ends) ≡ part at n xs
    piece ends =
        ap (take n) (drop-append-le at xs ends (omega arith))
        ∙ take-append-le n (drop at xs) ends (omega (arith, length-drop at xs))

same_part : (at n : ℕ) → at + n ≤ 2347 → part at n flipped_signature ≡ part at n good_signature
same_part at n within = part_before unended_signature (0x60 ∷ []) (0x61 ∷ []) at n (omega (arith, unended-length))

flipped_root : root_from owner_one (hash_of owner_one text flipped_signature) flipped_signature ≡ climb owner_one.identifier 32 (leaf_node owner_one.identifier 32 one_time) (path_in 67 flipped_signature) 5
flipped_root =
    root_of flipped_signature (ap (λ (bytes : List ℕ). from_be_bytes w32 bytes) (same_part 0 4 (lit≤ tt)) ∙ good_leaf) (same_part 8 32 (lit≤ tt)) (same_part 40 2144 (lit≤ tt))

abbrev other_root : List ℕ
other_root = bytes_of (codes "f19abcb73a0cdaac6680a5df33770c26a9b3893d94aa619d617ffe4465a54400")

flipped_climb : climb owner_one.identifier 32 (leaf_node owner_one.identifier 32 one_time) (path_in 67 flipped_signature) 5 ≡ other_root
unfolding first_words schedule rounds compress hash_after digest_bytes sha256 decode_pairs leaf_node inner_node parent_node climb
flipped_climb = refl

roots_differ : other_root ≡ owner_one.root → ⊥
unfolding decode_pairs
roots_differ same =
    let first : ◌≡◌ {A = ℕ} 0xf1 0x21 = ap (λ (root : List ℕ). get_or root 0 0) same in
    omega arith

flipped : Verifies owner_one text flipped_signature → ⊥
flipped h = roots_differ (sym (flipped_root ∙ flipped_climb) ∙ h.root)

-- ---- the order and its step

pub verified : (signature draw : List ℕ) → VerifiedOrders signature draw
unfolding decode_pairs number_bytes number_at raw_at items public_key_format trust_format target_format payload_format body_format sized_signature_format countersignatures_format order_format number_of uses_of_device_key entry_signed_by state_after_succession state_after_change state_after_order
verified signature draw = record {
  good = good;
  flipped = flipped;
  obeyed_order = is_obeyed (record {
    order = establish_order good_signature;
    spelled = spells order_exact (order_bytes good_signature) (establish_order good_signature) refl refl;
    passes = plain_passes (newborn signature) 2 (establish_order good_signature).act good_signature refl (lit≤ tt) tt good;
    follows = refl;
    answered = refl;
  });
  refused_order = fails_check (record {
    order = establish_order flipped_signature;
    spelled = spells order_exact (order_bytes flipped_signature) (establish_order flipped_signature) refl refl;
    refusal = WrongSignature;
    fails = inr (All-nil (TargetHoldsIn (view_of (newborn signature))), inr (refl, inl (refl, flipped)));
    answered = refl;
    stays = refl;
  });
}
