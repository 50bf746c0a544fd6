-- Facts of the path of a slot.
use Rattle.std.proofs.Common.{◌≡◌, ℕ, zero, suc, ◌+◌, ◌^◌, ◌<◌, ◌≤◌, ◌⊎◌, subst, inl, inr, pow-suc, arith}
use Rattle.queue.specs.Heap.{parent_slot}
use Rattle.queue.specs.Path.{OnPath, ancestor}
use Rattle.queue.specs.Path.OnPath.{here, above}

pub on_path_le : {a k : ℕ} → OnPath a k → a ≤ k
on_path_le (here e) = omega arith
on_path_le (above {k} z p) = omega (arith, on_path_le p)

pub on_path_trans : {a b c : ℕ} → OnPath a b → OnPath b c → OnPath a c
on_path_trans {a} p (here e) = subst (λ (k : ℕ). OnPath a k) e p
on_path_trans p (above z q) = above z (on_path_trans p q)

-- the parent of a slot on the path is on it too
pub on_path_up : {a k : ℕ} → 0 < a → OnPath a k → OnPath (parent_slot a) k
on_path_up {a} z p = on_path_trans (above z (here (λ _. parent_slot a))) p

pub on_path_split : {a k : ℕ} → OnPath a k → (a ≡ k) ⊎ OnPath a (parent_slot k)
on_path_split (here e) = inl e
on_path_split (above z p) = inr p

-- the path of a slot below 2 ^ m - 1 has at most m slots: each is fewer than m steps above it
pub on_path_short : (m : ℕ) {a k : ℕ} → k + 1 < 2 ^ m → OnPath a k → (j : ℕ) × (j < m) × (a ≡ ancestor j k)
on_path_short zero l p = absurd (omega arith)
on_path_short (suc m) l (here e) = (0, omega arith, e)
on_path_short (suc m) {k = k} l (above z p) =
    let half : parent_slot k + 1 < 2 ^ m = omega (arith, pow-suc 2 m) in
    let more = on_path_short m half p in
    (suc more.0, omega (arith, more.1), more.2)
