use Rattle.std.proofs.Common.{◌≡◌, ◌+◌, ◌∙◌, ap₂, arith}
use Rattle.tables.specs.Relations.{count}
use Rattle.tables.specs.Tables.{cell}
use Rattle.tables.proofs.Sums.{count_like}
use Rattle.axioms.specs.declared.kinds.Kind.TheVariants.{Cdis, Pdis}
use Rattle.closing.specs.Theories.{class_count, property_count, axioms_of}
use Rattle.closing.specs.declared.names.Name.TheVariants.{Class, Property}
use Rattle.closing.proofs.Derived.{found, found_decides}
use Rattle.closing.proofs.Stating.{all_ranged}
use Rattle.closing.proofs.Telling.{told_in}
use Rattle.closing.proofs.stages.emptiness.Stage5.empty_names.Goals as goal

pub returns : goal.returns
returns c =
    let s = c.args.self.now in
    let t = s.theory.now in
    let n = class_count t in
    let m = property_count t in
    let test = found (axioms_of t) n m in
    let classes : c.count_diagonal.result ≡ count n (λ a. test (Class a)) =
    rw c.span-classes.ensures at c.count_diagonal.ensures.counts_them ∙ count_like n (λ a. cell s.relations.cdis a a) (λ a. test (Class a)) (λ a h. s.exact Cdis (omega arith) a a h h) in
    let properties : c.count_diagonal-2.result ≡ count m (λ p. test (Property p)) =
    rw c.span-properties.ensures at c.count_diagonal-2.ensures.counts_them ∙ count_like m (λ p. cell s.relations.pdis.along p p) (λ p. test (Property p)) (λ p h. s.exact Pdis (omega arith) p p h h) in
    record {
      counts_the_empty_names = record {
        test = test;
        tells = λ name. told_in t name (test name) (found_decides (axioms_of t) n m (all_ranged t) name);
        number = ap₂ (λ x y. x + y) classes properties;
      };
    }
