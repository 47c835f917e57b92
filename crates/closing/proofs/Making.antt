-- What each step makes of what is stated and of relations that are exact.
use Rattle.std.proofs.Common.{◌≡◌, ℕ, ◌<◌, Bool, true, false, ◌&&◌, ◌||◌, eqb, ltb, ap, ◌∙◌, ap₂, arith}
use Rattle.tables.specs.Relations.{Rel, Agree, reflexive, turned, product, clash, closed}
use Rattle.tables.specs.Signed.{Signed, AgreeBoth, signed_product, signed_closed}
use Rattle.tables.specs.Tables.{cell, cells}
use Rattle.tables.specs.declared.signed.SignedTable.{SignedTable}
use Rattle.tables.specs.declared.table.Table.{Table}
use Rattle.tables.proofs.Sums.{some_like}
use Rattle.tables.proofs.Signs.{plain, reversing}
use Rattle.tables.proofs.Closings.{steps}
use Rattle.tables.proofs.Composing.{times_like}
use Rattle.tables.proofs.Likeness.{closed_like, signed_like}
use Rattle.axioms.specs.declared.kinds.Kind.{Kind}
use Rattle.axioms.specs.declared.kinds.Kind.TheVariants.{Csub, Psub, Cdis, Pdis, Dom, Ran, Psubinv, Pdisinv}
use Rattle.closing.specs.Exactness.{derived_in, Exact, ExactBoth, ExactTo}
use Rattle.closing.specs.Tests.{is_stated, either_way, psub_seed, psub_of, ends_seed, ends_of, pdis_seed, pdis_of}
use Rattle.closing.specs.Theories.{class_count, property_count, axioms_of}
use Rattle.closing.specs.declared.relations.Relations.{Relations}
use Rattle.closing.specs.declared.theory.Theory.{Theory}

-- products of relations that agree where they are read
product_like : (lefts n rights : ℕ) (R R' S S' : Rel) → Agree lefts n R R' → Agree n rights S S' → Agree lefts rights (product n R S) (product n R' S')
product_like lefts n rights R R' S S' left right i j hi hj =
    times_like plain n (steps R) (steps S) (steps R') (steps S') tt i j (λ t k hk. left i k hi hk) (λ t k hk. right k j hk hj)

signed_product_like : (n rights : ℕ) (E E' F F' : Signed) → AgreeBoth n n E E' → AgreeBoth n rights F F' → AgreeBoth n rights (signed_product n E F) (signed_product n E' F')
signed_product_like n rights E E' F F' left right s i j hi hj =
    times_like reversing n E F E' F' s i j (λ t k hk. left t i k hi hk) (λ t k hk. right t k j hk hj)

clash_like : (lefts n : ℕ) (A A' R R' : Rel) → Agree n n A A' → Agree lefts n R R' → (p : ℕ) → p < lefts → clash n A R p ≡ clash n A' R' p
clash_like lefts n A A' R R' apart ends p hp =
    some_like n (λ b. product n R A p b && R p b) (λ b. product n R' A' p b && R' p b) (λ b hb. ap₂ (λ x y. x && y) (product_like lefts n n R R' A A' ends apart p b hp hb) (ends p b hp hb))

module _ (t : Theory) where
  abbrev n : ℕ
  n = class_count t

  abbrev m : ℕ
  m = property_count t

  abbrev told : Kind → Rel
  told = is_stated (axioms_of t)

  -- what is stated, and each the other way round
  turned_too : (S T : Table) (k : Kind) → Agree 64 64 (cell S) (told k) → Agree 64 64 (cell T) (either_way (cell S)) → Agree 64 64 (cell T) (either_way (told k))
  turned_too S T k stated ways i j hi hj = ways i j hi hj ∙ ap₂ (λ x y. x || y) (stated i j hi hj) (stated j i hj hi)

  -- stage 1
  pub csub_made : (S T C : Table) → Agree 64 64 (cell S) (told Csub) → Agree 64 64 (cell T) (reflexive n (cell S)) → Agree n 64 (cell C) (closed n (cell T)) → Exact t Csub C
  csub_made S T C stated reflected chained i j hi hj =
      chained i j hi (omega arith) ∙ closed_like n n (omega arith) n (cell T) (reflexive n (told Csub)) (omega arith)
      (λ a b ha hb. reflected a b (omega arith) (omega arith) ∙ ap (λ x. x || (eqb a b && ltb a n)) (stated a b (omega arith) (omega arith))) i j hi hj

  -- stage 2
  pub psub_made : (S : Table) (E C : SignedTable) → Agree 64 64 (cell S) (told Psub) → Agree 64 64 (cell E.along) (reflexive m (cell S)) → Agree 64 64 (cell E.against) (told Psubinv) →
      AgreeBoth m 64 (cells C) (signed_closed m (cells E)) → ExactBoth t Psub Psubinv C
  psub_made S E C stated reflected reversed chained = (made false, made true)
    where
      seeded : AgreeBoth m m (cells E) (psub_seed (axioms_of t) n m)
      seeded false a b ha hb = reflected a b (omega arith) (omega arith) ∙ ap (λ x. x || (eqb a b && ltb a m)) (stated a b (omega arith) (omega arith))
      seeded true a b ha hb = reversed a b (omega arith) (omega arith)

      made : AgreeBoth m m (cells C) (psub_of (axioms_of t) n m)
      made s i j hi hj = chained s i j hi (omega arith) ∙ signed_like m m (omega arith) m (cells E) (psub_seed (axioms_of t) n m) (omega arith) seeded s i j hi hj

  module _ (r : Relations) where
    psub_exact : ExactTo 2 t r → AgreeBoth m m (cells r.psub) (psub_of (axioms_of t) n m)
    psub_exact exact false = exact Psub (omega arith)
    psub_exact exact true = exact Psubinv (omega arith)

    ends_exact : ExactTo 3 t r → AgreeBoth m n (cells r.ends) (ends_of (axioms_of t) n m)
    ends_exact exact false = exact Dom (omega arith)
    ends_exact exact true = exact Ran (omega arith)

    -- stage 3
    pub ends_made : (F near C : SignedTable) → ExactTo 2 t r → Agree 64 64 (cell F.along) (told Dom) → Agree 64 64 (cell F.against) (told Ran) →
        AgreeBoth m 64 (cells near) (signed_product m (cells r.psub) (cells F)) →
        Agree m 64 (cell C.along) (product n (cell near.along) (cell r.csub)) → Agree m 64 (cell C.against) (product n (cell near.against) (cell r.csub)) → ExactBoth t Dom Ran C
    ends_made F near C exact dom ran near_is along against =
        ((λ i j hi hj. along i j hi (omega arith) ∙ widened false i j hi hj), (λ i j hi hj. against i j hi (omega arith) ∙ widened true i j hi hj))
      where
        seeded : AgreeBoth m n (cells F) (ends_seed (axioms_of t) n m)
        seeded false a b ha hb = dom a b (omega arith) (omega arith)
        seeded true a b ha hb = ran a b (omega arith) (omega arith)

        nearby : (s : Bool) → Agree m n (cells near s) (signed_product m (psub_of (axioms_of t) n m) (ends_seed (axioms_of t) n m) s)
        nearby s a b ha hb =
            near_is s a b ha (omega arith)
            ∙ signed_product_like m n (cells r.psub) (psub_of (axioms_of t) n m) (cells F) (ends_seed (axioms_of t) n m) (psub_exact exact) seeded s a b ha hb

        widened : (s : Bool) → Agree m n (product n (cells near s) (cell r.csub)) (ends_of (axioms_of t) n m s)
        widened s =
            product_like m n n (cells near s) (signed_product m (psub_of (axioms_of t) n m) (ends_seed (axioms_of t) n m) s) (cell r.csub) (derived_in t Csub) (nearby s) (exact Csub (omega arith))

    -- stage 4
    pub cdis_made : (S T half back C : Table) → ExactTo 3 t r → Agree 64 64 (cell S) (told Cdis) → Agree 64 64 (cell T) (either_way (cell S)) →
        Agree n 64 (cell half) (product n (cell r.csub) (cell T)) → Agree 64 64 (cell back) (turned (cell half)) → Agree n 64 (cell C) (product n (cell r.csub) (cell back)) → Exact t Cdis C
    cdis_made S T half back C exact stated ways half_is back_is made i j hi hj =
        made i j hi (omega arith)
        ∙ product_like n n n (cell r.csub) (derived_in t Csub) (cell back) (turned (product n (derived_in t Csub) (either_way (told Cdis)))) (exact Csub (omega arith)) inner i j hi hj
      where
        inner : Agree n n (cell back) (turned (product n (derived_in t Csub) (either_way (told Cdis))))
        inner a b ha hb =
            back_is a b (omega arith) (omega arith) ∙ half_is b a hb (omega arith)
            ∙ product_like n n n (cell r.csub) (derived_in t Csub) (cell T) (either_way (told Cdis)) (exact Csub (omega arith)) (λ i j hi hj. turned_too S T Cdis stated ways i j (omega arith) (omega arith)) b a hb ha

    -- stage 5
    pub pdis_made : (S S' U T : Table) (F half back C : SignedTable) → ExactTo 4 t r → Agree 64 64 (cell S) (told Pdis) → Agree 64 64 (cell U) (either_way (cell S)) →
        Agree m 64 (cell T) (λ i j. cell U i j || (eqb i j && clash n (cell r.cdis) (cell r.ends.along) i)) →
        Agree m 64 (cell F.along) (λ i j. cell T i j || (eqb i j && clash n (cell r.cdis) (cell r.ends.against) i)) →
        Agree 64 64 (cell S') (told Pdisinv) → Agree 64 64 (cell F.against) (either_way (cell S')) →
        AgreeBoth m 64 (cells half) (signed_product m (cells r.psub) (cells F)) → AgreeBoth 64 64 (cells back) (λ s. turned (cells half s)) →
        AgreeBoth m 64 (cells C) (signed_product m (cells r.psub) (cells back)) → ExactBoth t Pdis Pdisinv C
    pdis_made S S' U T F half back C exact stated ways doms rans stated' ways' half_is back_is made = (closes false, closes true)
      where
        clashes : (s : Bool) (p : ℕ) → p < m → clash n (cell r.cdis) (cells r.ends s) p ≡ clash n (derived_in t Cdis) (ends_of (axioms_of t) n m s) p
        clashes s =
            clash_like m n (cell r.cdis) (derived_in t Cdis) (cells r.ends s) (ends_of (axioms_of t) n m s) (exact Cdis (omega arith)) (ends_exact (λ k h. exact k (omega arith)) s)

        seeded : AgreeBoth m m (cells F) (pdis_seed (axioms_of t) n m (ends_of (axioms_of t) n m) (derived_in t Cdis))
        seeded false a b ha hb =
            rans a b ha (omega arith)
            ∙ ap₂ (λ x y. x || (eqb a b && y))
            (doms a b ha (omega arith) ∙ ap₂ (λ x y. x || (eqb a b && y)) (turned_too S U Pdis stated ways a b (omega arith) (omega arith)) (clashes false a ha))
            (clashes true a ha)
        seeded true a b ha hb = turned_too S' F.against Pdisinv stated' ways' a b (omega arith) (omega arith)

        inner : AgreeBoth m m (cells back) (λ s. turned (signed_product m (psub_of (axioms_of t) n m) (pdis_seed (axioms_of t) n m (ends_of (axioms_of t) n m) (derived_in t Cdis)) s))
        inner s a b ha hb =
            back_is s a b (omega arith) (omega arith) ∙ half_is s b a hb (omega arith)
            ∙ signed_product_like m m (cells r.psub) (psub_of (axioms_of t) n m) (cells F) (pdis_seed (axioms_of t) n m (ends_of (axioms_of t) n m) (derived_in t Cdis))
            (psub_exact (λ k h. exact k (omega arith))) seeded s b a hb ha

        closes : AgreeBoth m m (cells C) (pdis_of (axioms_of t) n m)
        closes s i j hi hj =
            made s i j hi (omega arith)
            ∙ signed_product_like m m (cells r.psub) (psub_of (axioms_of t) n m) (cells back)
            (λ s. turned (signed_product m (psub_of (axioms_of t) n m) (pdis_seed (axioms_of t) n m (ends_of (axioms_of t) n m) (derived_in t Cdis)) s))
            (psub_exact (λ k h. exact k (omega arith))) inner s i j hi hj
