-- Laws of layers, which the floor's own law cites. They are offered to the crates above.
use Rattle.std.specs.Prelude.{◌≡◌, ℕ, ◌<◌, ◌≤◌, map, length, Some, None, Ok, Err}
use Rattle.std.proofs.Common.{sym, ◌∙◌, ⊎_elim, arith}
use Rattle.std.proofs.lemmas.List.{get_or-map, get_or_past, length-map}
use Rattle.std.proofs.lemmas.Bool.{cases_lt}
use Rattle.axioms.specs.declared.axiom_types.Axiom.{Axiom}
use Rattle.sheets.specs.Faults.{no_such_place}
use Rattle.sheets.specs.Contents.{Place, Content, Sound, answer}
use Rattle.sheets.specs.Layers.{each_place, one_up, handed_up, shown_above, floor_content}

module _ (f : Place → Place) (s : Content) (k : ℕ) where
  pub each_past : length s.places ≤ k → answer (each_place f s) k ≡ Err (no_such_place k)
  each_past past = get_or_past (map f s.places) k (Err (no_such_place k)) (simp length-map past)

  pub each_within : k < length s.places → answer (each_place f s) k ≡ f (answer s k)
  each_within within = get_or-map f s.places k (Err (no_such_place k)) (Err (no_such_place k)) within

-- a layer that shows only axioms of the sheet below is sound
pub each_sound : (f : Place → Place) → ((x : Place) (a : Axiom) → f x ≡ Ok (Some a) → x ≡ Ok (Some a)) → (s : Content) → Sound s → Sound (each_place f s)
each_sound f shows s h = record {
  few_classes = h.few_classes;
  few_properties = h.few_properties;
  few_places = simp length-map h.few_places;
  axioms_well_formed = λ k a e. ⊎_elim
      (λ within. h.axioms_well_formed k a (shows (answer s k) a (sym (each_within f s k within) ∙ e)))
      (λ past. cc (each_past f s k past))
      (cases_lt k (length s.places));
}

one_up_shows : (x : Place) (a : Axiom) → one_up x ≡ Ok (Some a) → x ≡ Ok (Some a)
one_up_shows (Ok o) a e = e
one_up_shows (Err f) a e = cc

pub handed_up_sound : (s : Content) → Sound s → Sound (handed_up s)
handed_up_sound s h = each_sound one_up one_up_shows s h

above_shows : (floor : ℕ) (x : Place) (a : Axiom) → shown_above floor x ≡ Ok (Some a) → x ≡ Ok (Some a)
above_shows floor (Ok None) a e = e
above_shows floor (Ok (Some b)) a e = grind arith
above_shows floor (Err f) a e = cc

pub floor_sound : (floor : ℕ) (s : Content) → Sound s → Sound (floor_content floor s)
floor_sound floor s h = each_sound (shown_above floor) (above_shows floor) (handed_up s) (handed_up_sound s h)
