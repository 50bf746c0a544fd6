-- The invariant is kept where a label is given and where a place is closed.
use Rattle.std.proofs.Common.{◌≡◌, ℕ, suc, ◌+◌, ◌*◌, ◌<◌, ◌≤◌, min, false, ◌⊎◌, List, length, Some, sym, refl, ap, ◌∙◌, subst, ⊎_elim, mul-le-mul_left, arith}
use Rattle.std.proofs.lemmas.Bool.{cases_eq}
use Rattle.floors.specs.declared.leg.Leg.{Leg}
use Rattle.floors.specs.Guided.{Guided, SoundGuided}
use Rattle.search_model.specs.declared.records.Record.{Record}
use Rattle.search_model.specs.Records.{at, Seen, Open, Closed}
use Rattle.search_model.specs.Expansion.{closed}
use Rattle.search_model.specs.Costs.{greatest_cost}
use Rattle.search_model.proofs.Table.{Changed, changed_at, changed_keeps, seen_on}
use Rattle.search_model.proofs.Labels.{given_record, offered_label}
use Rattle.search_model.proofs.Invariant.{seen_one, seen_count, Chain, root, link, Relaxed, AllRelaxed, Estimates, Inv, fresh_room, relaxed_more}

-- A label is given: leg l, number k, of n leads to q, and u is t with the new record r of q.
module _
    (g : Guided)
    (sound : SoundGuided g)
    (start : ℕ)
    (t : List Record)
    (n k : ℕ)
    (l : Leg)
    (usable : g.floor.leg n k ≡ Some l)
    (h : Inv g start t n k)
    (n_seen : Seen t n)
    (u : List Record)
    (c : Changed t l.target (given_record g t n k l) u)
    (reason : ((at t l.target).mark ≡ 0) ⊎ (offered_label t n l < (at t l.target).label))
  where
    -- A seen place with a label of at most the one given is another place, so its record stays.
    stays : (p : ℕ) → Seen t p → (at t p).label ≤ offered_label t n l → at u p ≡ at t p
    stays p s b = c.elsewhere p (λ e. ⊎_elim (λ z. unseen (subst (λ x. (at t x).mark ≡ 0) (sym e) z)) (λ z. lower (subst (λ x. offered_label t n l < (at t x).label) (sym e) z)) reason)
      where
        unseen : (at t p).mark ≡ 0 → ⊥
        unseen z = omega arith

        lower : offered_label t n l < (at t p).label → ⊥
        lower z = omega arith

    n_stays : at u n ≡ at t n
    n_stays = stays n n_seen (omega arith)

    start_stays : at u start ≡ at t start
    start_stays = stays start h.start_seen (omega (arith, h.start_label))

    -- Seen places stay seen, and their labels do not rise.
    pub still_seen : (p : ℕ) → Seen t p → Seen u p
    still_seen p s = changed_keeps c (λ r. 1 ≤ r.mark) (omega arith) p s

    lower_label : (p : ℕ) → Seen t p → (at u p).label ≤ (at t p).label
    lower_label p s =
        ⊎_elim
        (λ x. at_target x.0 (ap (λ (r : Record). r.label) x.1))
        (λ x. other (ap (λ (r : Record). r.label) x.1))
        (changed_at c p)
      where
        other : (at u p).label ≡ (at t p).label → (at u p).label ≤ (at t p).label
        other e = omega arith

        at_target : p ≡ l.target → (at u p).label ≡ offered_label t n l → (at u p).label ≤ (at t p).label
        at_target e x =
            ⊎_elim
            (λ z. let y : (at t p).mark ≡ 0 = ap (λ q. (at t q).mark) e ∙ z in absurd (omega arith))
            (λ z. let y : (at t p).label ≡ (at t l.target).label = ap (λ q. (at t q).label) e in omega arith)
            reason

    -- A chain over labels of at most the one given is still a chain.
    kept_chain : (p : ℕ) → Chain g.floor start t p → Seen t p → (at t p).label ≤ offered_label t n l → Chain g.floor start u p
    kept_chain p (root e) s b = root e
    kept_chain p (link {q = q} d parent q-seen leg to step chain) s b =
        let here : at u p ≡ at t p = stays p s b in
        let there : at u q ≡ at t q = stays q q-seen (omega arith) in
        link
        d
        (ap (λ (r : Record). r.parent) here ∙ parent)
        (still_seen q q-seen)
        (ap (λ (r : Record). g.floor.leg q r.leg) here ∙ leg)
        to
        (subst (λ (r : Record). (at u q).label + d.cost ≤ r.label) (sym here) (subst (λ (r : Record). r.label + d.cost ≤ (at t p).label) (sym there) step))
        (kept_chain q chain q-seen (omega arith))

    target_chain : Chain g.floor start u l.target
    target_chain =
        link
        l
        (ap (λ (r : Record). r.parent) c.here)
        (still_seen n n_seen)
        (ap (λ (r : Record). g.floor.leg n r.leg) c.here ∙ usable)
        refl
        (let at_n : (at u n).label ≡ (at t n).label = ap (λ (r : Record). r.label) n_stays in
        let at_target : (at u l.target).label ≡ offered_label t n l = ap (λ (r : Record). r.label) c.here in
        omega arith)
        (kept_chain n (h.chains n n_seen) n_seen (omega arith))

    -- Every other chain may pass through the target, whose label has only fallen.
    moved_chain : (p : ℕ) → Chain g.floor start t p → Chain g.floor start u p
    moved_chain p (root e) = root e
    moved_chain p (link {q = q} d parent q-seen leg to step chain) =
        ⊎_elim (λ x. subst (Chain g.floor start u) (sym x) target_chain) (further (moved_chain q chain)) (cases_eq p l.target)
      where
        further : Chain g.floor start u q → (p ≡ l.target → ⊥) → Chain g.floor start u p
        further q-chain ne =
            let here : at u p ≡ at t p = c.elsewhere p ne in
            let at_p : (at u p).label ≡ (at t p).label = ap (λ (r : Record). r.label) here in
            link
            d
            (ap (λ (r : Record). r.parent) here ∙ parent)
            (still_seen q q-seen)
            (ap (λ (r : Record). g.floor.leg q r.leg) here ∙ leg)
            to
            (omega (arith, lower_label q q-seen))
            q-chain

    count_sum : seen_count u + min (at t l.target).mark 1 ≡ seen_count t + 1
    unfolding seen_count seen_one
    count_sum = c.sums seen_one

    new_labels : (p : ℕ) → Seen u p → (at u p).label + greatest_cost g.floor ≤ greatest_cost g.floor * seen_count u
    new_labels p s = ⊎_elim (λ x. at_target (ap (λ (r : Record). r.label) x.1)) (λ x. elsewhere x.1) (changed_at c p)
      where
        elsewhere : at u p ≡ at t p → (at u p).label + greatest_cost g.floor ≤ greatest_cost g.floor * seen_count u
        elsewhere e =
            let before : Seen t p = subst (λ (r : Record). 1 ≤ r.mark) e s in
            let more : greatest_cost g.floor * seen_count t ≤ greatest_cost g.floor * seen_count u =
            mul-le-mul_left (greatest_cost g.floor) (omega (arith, count_sum)) in
            let same : (at u p).label ≡ (at t p).label = ap (λ (r : Record). r.label) e in
            omega (arith, h.labels p before)

        fresh : (at t l.target).mark ≡ 0 → offered_label t n l + greatest_cost g.floor ≤ greatest_cost g.floor * seen_count u
        fresh z =
            let one : suc (seen_count t) ≡ seen_count u = omega (arith, count_sum) in
            subst (λ y. offered_label t n l + greatest_cost g.floor ≤ greatest_cost g.floor * y) one (fresh_room g sound start t n k l h n_seen usable z).0

        again : ((at t l.target).mark ≡ 0 → ⊥) → offered_label t n l < (at t l.target).label → offered_label t n l + greatest_cost g.floor ≤ greatest_cost g.floor * seen_count u
        again ne b =
            let same : seen_count t ≡ seen_count u = omega (arith, count_sum) in
            let old : (at t l.target).label + greatest_cost g.floor ≤ greatest_cost g.floor * seen_count u =
            subst (λ y. (at t l.target).label + greatest_cost g.floor ≤ greatest_cost g.floor * y) same (h.labels l.target (omega arith)) in
            omega arith

        at_target : (at u p).label ≡ offered_label t n l → (at u p).label + greatest_cost g.floor ≤ greatest_cost g.floor * seen_count u
        at_target e = rw e (⊎_elim fresh (λ ne. ⊎_elim fresh (again ne) reason) (cases_eq (at t l.target).mark 0))

    -- A place that is closed is not the target, which is open.
    closed_stays : (p : ℕ) → Closed u p → at u p ≡ at t p
    closed_stays p cl = ⊎_elim (λ x. open_now (ap (λ (r : Record). r.mark) x.1)) (λ x. x.1) (changed_at c p)
      where
        open_now : (at u p).mark ≡ 1 → at u p ≡ at t p
        open_now e = absurd (omega arith)

    new_relaxed : AllRelaxed g.floor u n k
    new_relaxed p j d cl e guard =
        let same : at u p ≡ at t p = closed_stays p cl in
        let at_p : (at u p).label ≡ (at t p).label = ap (λ (r : Record). r.label) same in
        let old : Relaxed t p d = h.relaxed p j d (subst (λ (r : Record). r.mark ≡ 2) same cl) e guard in
        record { seen = still_seen d.target old.seen; label = omega (arith, old.label, lower_label d.target old.seen) }

    this_relaxed : Relaxed u n l
    this_relaxed =
        let at_n : (at u n).label ≡ (at t n).label = ap (λ (r : Record). r.label) n_stays in
        let at_target : (at u l.target).label ≡ offered_label t n l = ap (λ (r : Record). r.label) c.here in
        record { seen = subst (λ (r : Record). 1 ≤ r.mark) (sym c.here) (omega arith); label = omega arith }

    pub given_step : Inv g start u n (suc k)
    given_step =
        record {
          sized = c.sized ∙ h.sized;
          start_seen = still_seen start h.start_seen;
          start_label = ap (λ (r : Record). r.label) start_stays ∙ h.start_label;
          marks = λ p. changed_keeps c (λ r. r.mark ≤ 2) (omega arith) p (h.marks p);
          labels = new_labels;
          chains =
              λ p s.
              ⊎_elim
              (λ x. subst (Chain g.floor start u) (sym x.0) target_chain)
              (λ x. moved_chain p (h.chains p (subst (λ (r : Record). 1 ≤ r.mark) x.1 s)))
              (changed_at c p);
          relaxed = relaxed_more g sound start u n k new_relaxed (λ d e. subst (Relaxed u n) (same_leg d e) this_relaxed);
          no_goals = λ p cl. h.no_goals p (subst (λ (r : Record). r.mark ≡ 2) (closed_stays p cl) cl);
          estimates =
              λ p s.
              ⊎_elim
              (λ x. subst (Estimates g p) (sym x.1) (subst (λ q. Estimates g q (given_record g t n k l)) (sym x.0) (record { low = refl; hope = refl; steps = refl })))
              (λ x. subst (Estimates g p) (sym x.1) (h.estimates p (subst (λ (r : Record). 1 ≤ r.mark) x.1 s)))
              (changed_at c p);
        }
      where
        same_leg : (d : Leg) → g.floor.leg n k ≡ Some d → l ≡ d
        same_leg d e = cc

-- An open place n is closed: u is t with that record, and no leg of n has been taken.
module _
    (g : Guided)
    (sound : SoundGuided g)
    (start : ℕ)
    (t : List Record)
    (n : ℕ)
    (h : Inv g start t g.floor.size 0)
    (opened : Open t n)
    (no_goal : g.floor.goal n ≡ false)
    (u : List Record)
    (c : Changed t n (closed (at t n)) u)
  where
    -- Nothing but the mark of n changes.
    same_at : {A : Type 0} (field : Record → A) → field (closed (at t n)) ≡ field (at t n) → (p : ℕ) → field (at u p) ≡ field (at t p)
    same_at field e p = ⊎_elim (λ x. ap field x.1 ∙ e ∙ ap (λ q. field (at t q)) (sym x.0)) (λ x. ap field x.1) (changed_at c p)

    seen_before : (p : ℕ) → Seen u p → Seen t p
    seen_before p s =
        ⊎_elim (λ x. let m : (at t p).mark ≡ 1 = ap (λ q. (at t q).mark) x.0 ∙ opened in omega arith) (λ x. subst (λ (r : Record). 1 ≤ r.mark) x.1 s) (changed_at c p)

    seen_after : (p : ℕ) → Seen t p → Seen u p
    seen_after p s = changed_keeps c (λ r. 1 ≤ r.mark) (omega arith) p s

    chain_after : (p : ℕ) → Chain g.floor start t p → Chain g.floor start u p
    chain_after p (root e) = root e
    chain_after p (link {q = q} d parent q-seen leg to step chain) =
        let at_p : (at u p).label ≡ (at t p).label = same_at (λ r. r.label) refl p in
        let at_q : (at u q).label ≡ (at t q).label = same_at (λ r. r.label) refl q in
        link
        d
        (same_at (λ r. r.parent) refl p ∙ parent)
        (seen_after q q-seen)
        (ap (g.floor.leg q) (same_at (λ r. r.leg) refl p) ∙ leg)
        to
        (omega arith)
        (chain_after q chain)

    same_count : seen_count u ≡ seen_count t
    unfolding seen_count seen_one
    same_count = let sums : seen_count u + min (at t n).mark 1 ≡ seen_count t + 1 = c.sums seen_one in omega arith

    relaxed_after : AllRelaxed g.floor u n 0
    relaxed_after p j d cl e guard = ⊎_elim (λ x. absurd (omega (arith, guard x.0))) (λ x. other x.1) (changed_at c p)
      where
        other : at u p ≡ at t p → Relaxed u p d
        other x =
            let before : Closed t p = subst (λ (r : Record). r.mark ≡ 2) x cl in
            let on : p < length t = seen_on t p (omega arith) in
            let old : Relaxed t p d = h.relaxed p j d before e (λ y. absurd (omega (arith, h.sized))) in
            let at_p : (at u p).label ≡ (at t p).label = same_at (λ r. r.label) refl p in
            let at_target : (at u d.target).label ≡ (at t d.target).label = same_at (λ r. r.label) refl d.target in
            record { seen = seen_after d.target old.seen; label = omega (arith, old.label) }

    pub closing_step : Inv g start u n 0
    closing_step =
        record {
          sized = c.sized ∙ h.sized;
          start_seen = seen_after start h.start_seen;
          start_label = same_at (λ r. r.label) refl start ∙ h.start_label;
          marks = λ p. changed_keeps c (λ r. r.mark ≤ 2) (omega arith) p (h.marks p);
          labels =
              λ p s.
              let at_p : (at u p).label ≡ (at t p).label = same_at (λ r. r.label) refl p in
              rw (at_p, same_count) (h.labels p (seen_before p s));
          chains = λ p s. chain_after p (h.chains p (seen_before p s));
          relaxed = relaxed_after;
          no_goals =
              λ p cl.
              ⊎_elim
              (λ x. ap g.floor.goal x.0 ∙ no_goal)
              (λ x. h.no_goals p (subst (λ (r : Record). r.mark ≡ 2) x.1 cl))
              (changed_at c p);
          estimates =
              λ p s.
              let old : Estimates g p (at t p) = h.estimates p (seen_before p s) in
              record {
                low = same_at (λ r. r.low) refl p ∙ old.low;
                hope = same_at (λ r. r.hope) refl p ∙ old.hope;
                steps = same_at (λ r. r.steps) refl p ∙ old.steps;
              };
        }

    pub closing_seen : Seen u n
    closing_seen = seen_after n (omega arith)
