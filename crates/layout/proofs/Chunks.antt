-- A record among the 16-byte chunks of a layout.
use Rattle.std.proofs.Common.{◌≡◌, ℕ, zero, suc, ◌+◌, ◌*◌, ◌<◌, List, get_or, sym, ap, ◌∙◌, drop, arith, refl, lit<, Option, Some, None, MatchOption, IfSome, length, ltb, ◌≤◌, Bor}
use Rattle.std.proofs.lemmas.List.{get_or-drop, get_or-take}
use Rattle.std.proofs.Math.Nat.{mul-suc}
use Rattle.std.proofs.lemmas.Bool.{lt-ltb, le-ltb, cond-true, cond-false}
use Rattle.std.specs.List.{HoldsAt}
use Rattle.std.specs.Simd.{first_chunks}
use Rattle.layout.specs.Records.{part_at, whole, zeros, record_at}
use Rattle.layout.specs.declared.record.RawRecord.{RawRecord}

chunk_at : (n k r : ℕ) (xs d : List ℕ) (i : ℕ) → r < k → i < n → get_or (get_or (first_chunks n k xs) r d) i 0 ≡ get_or xs (n * r + i) 0
chunk_at n zero r xs d i h within = absurd (omega arith)
chunk_at n (suc k) zero xs d i h within = get_or-take n xs i 0 within ∙ ap (λ j. get_or xs j 0) (omega arith)
chunk_at n (suc k) (suc r) xs d i h within =
    chunk_at n k r (drop n xs) d i (omega arith) within ∙ get_or-drop n xs (n * r + i) 0 ∙ ap (λ j. get_or xs j 0) (omega (arith, next n r))
  where
    next : (x y : ℕ) → x * suc y ≡ x + x * y
    next x y = omega (arith, mul-suc x y)

part_of : (bs chunk : List ℕ) (m : ℕ) → ((i : ℕ) → i < 16 → get_or chunk i 0 ≡ get_or bs (m + i) 0) → part_at chunk 0 ≡ part_at bs m
part_of bs chunk m same = rw (at 0 m (lit< tt) (omega arith), at 1 (m + 1) (lit< tt) (omega arith), at 2 (m + 2) (lit< tt) (omega arith), at 3 (m + 2 + 1) (lit< tt) (omega arith), at 4 (m + 4) (lit< tt) (omega arith), at 5 (m + 4 + 1) (lit< tt) (omega arith), at 6 (m + 4 + 2) (lit< tt) (omega arith), at 7 (m + 4 + 3) (lit< tt) (omega arith), at 8 (m + 8) (lit< tt) (omega arith), at 9 (m + 8 + 1) (lit< tt) (omega arith), at 10 (m + 8 + 2) (lit< tt) (omega arith), at 11 (m + 8 + 3) (lit< tt) (omega arith), at 12 (m + 12) (lit< tt) (omega arith), at 13 (m + 12 + 1) (lit< tt) (omega arith), at 14 (m + 12 + 2) (lit< tt) (omega arith), at 15 (m + 12 + 3) (lit< tt) (omega arith)) refl
  where
    at : (i j : ℕ) → i < 16 → m + i ≡ j → get_or chunk i 0 ≡ get_or bs j 0
    at i j h e = same i h ∙ ap (λ k. get_or bs k 0) e

-- What is read of the chunk of that number, or zeros where there is none, is the record.
pub read_at : (bs : List ℕ) (records : List (List ℕ)) (r : ℕ) (o : Option (Bor (List ℕ))) (d x : RawRecord)
    → records ≡ first_chunks 16 (whole bs) bs → length records ≡ whole bs
    → IfSome o (λ c. c.now ≡ get_or records r c.now)
    → MatchOption o (length records ≤ r) (λ c. (r < length records) × HoldsAt (λ y. c.now ≡ y) records r)
    → d ≡ zeros → MatchOption o (x ≡ d) (λ c. x ≡ part_at c.now 0) → x ≡ record_at bs r
unfolding record_at
read_at bs records r None d x front len found which none read =
    read ∙ none ∙ sym (cond-false (ltb r (whole bs)) _ _ (le-ltb r (whole bs) (omega (arith, which, len))))
read_at bs records r (Some c) d x front len found which none read =
    let within : r < whole bs = omega (arith, which.0, len) in
    read
    ∙ part_of bs c.now (16 * r) (λ i h. ap (λ l. get_or l i 0) (found ∙ ap (λ q. get_or q r c.now) front) ∙ chunk_at 16 (whole bs) r bs c.now i within h)
    ∙ sym (cond-true (ltb r (whole bs)) _ _ (lt-ltb r (whole bs) within))
