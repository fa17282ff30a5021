-- Rows split off, absorbed and renamed, as lists of rows.
-- Assumes nothing.
use mathlib.Core.Path.{◌≡◌, refl, sym, ap, ◌∙◌}
use mathlib.Core.Bool.{Bool, true, false, true≢false}
use Prim.Native.Nat.{ℕ, ◌+◌, ◌-◌, ◌≤◌, ◌<◌}
use mathlib.Core.List.{List, [], ◌∷◌, ◌++◌}
use native.Mathlib.Omega.{arith}
use lib.Dec.{leb}
use lib.ListN.{length, take, drop}
use borrow.Author.Tests.{le-leb, leb-true}
use Rattle.store.specs.Layout.{slot_count, cap_of, count_of, used_of}
use Rattle.store.specs.Rows.{Row, make_row, row_at, rows_of, field_of, insert_at, remove_at, replace_at, with_bytes, respelled}
use Rattle.store.specs.Packages.{Shape, Sound, Inserted, Removed, Became, Passing, passed, Respelling, is_package}
use Rattle.store.proofs.PackageTest.{package_shape, sound_package}
use Rattle.pieces.specs.Rowed.{Rowed, There, Behind, SplitOff, Absorbed, Renamed}
use Rattle.pieces.proofs.PackageRows.{rowed_used, rowed_count}
use Rattle.pieces.proofs.RowLists.{replace_here, count_at, row_at_lem, row_behind, insert_behind, replace_behind, remove_behind}

-- ROW R IS THERE, by the test of a package and by the number of rows
pub there_is : (b : List ℕ) (r n : ℕ) (z : Bool) → is_package b ≡ true → n ≡ count_of b → (z ≡ true → r < n) → (r < n → z ≡ true) → There b r z
there_is b r n z p e f g = record {
  safe = λ t. (package_shape b p, omega (arith, f t));
  is = λ so fo h. g (omega arith);
}

pub not_there : (b : List ℕ) (r : ℕ) → is_package b ≡ false → There b r false
not_there b r p = record { safe = λ t. absurd (true≢false (sym t)); is = λ so fo h. absurd (true≢false (sym (sound_package b so fo) ∙ p)) }

-- A ROW MAY FOLLOW IT: a slot is free, and so are k bytes
pub behind_lost : (b : List ℕ) (r k : ℕ) (y : Bool) → There b r y → y ≡ false → Behind b r k false
behind_lost b r k y th f = record {
  safe = λ t. absurd (true≢false (sym t));
  is = λ so fo h few fits. absurd (true≢false (sym (th.is so fo h) ∙ f));
}

pub behind_full : (b : List ℕ) (r k n : ℕ) → n ≡ count_of b → slot_count ≤ n → Behind b r k false
behind_full b r k n e f = record { safe = λ t. absurd (true≢false (sym t)); is = λ so fo h few fits. absurd (omega arith) }

pub behind_is : (b : List ℕ) (r k n u : ℕ) → Shape b × (r < count_of b) → n ≡ count_of b → n < slot_count → u + used_of b ≡ cap_of b → Behind b r k (leb k u)
behind_is b r k n u s e few f = record {
  safe = λ t. (s.0, s.1, record { at = omega (arith, s.1); more = omega arith; fits = omega (arith, leb-true k u t) });
  is = λ so fo h few fits. le-leb k u (omega arith);
}

-- SPLIT OFF: a row is put in behind row r, and bytes are passed on to it
module _ (b : List ℕ) (r t : ℕ) (p s : List ℕ) (n : ℕ) where
  pub split_unfit : (k : ℕ) (z : Bool) → k ≡ length p + length s → Behind b r k z → z ≡ false → SplitOff b b r t p s n
  split_unfit k z ek be f = record {
    is = λ c before w behind ro e f3 f0 pos enough few fits.
        absurd (true≢false (sym (be.is ro.sound ro.format (omega (arith, count_at b before r e w behind ro.rows))
        (omega (arith, rowed_count b c (before ++ (w ∷ behind)) ro)) (omega (arith, rowed_used b c (before ++ (w ∷ behind)) ro, ro.cap))) ∙ f));
  }

  module _ (l : List ℕ) (inserted : Sound b → Inserted b l (r + 1) (make_row t p s [] [])) where
    -- the rows with the new one
    module _ (c : ℕ) (before : List Row) (w : Row) (behind : List Row) (ro : Rowed b c (before ++ (w ∷ behind))) (e : length before ≡ r) where
      with_new : Rowed l c (before ++ (w ∷ make_row t p s [] [] ∷ behind))
      with_new =
          let i = inserted ro.sound in
          record {
            sound = i.sound;
            format = i.format ∙ ro.format;
            rows = i.rows ∙ ap (insert_at (r + 1) (make_row t p s [] [])) ro.rows ∙ insert_behind before r e w (make_row t p s [] []) behind;
            cap = i.cap ∙ ro.cap;
          }

    pub split_lost : (z : Bool) → There l (r + 1) z → z ≡ false → SplitOff b l r t p s n
    split_lost z th f = record {
      is = λ c before w behind ro e f3 f0 pos enough few fits.
          let v = with_new c before w behind ro e in
          absurd (true≢false (sym (th.is v.sound v.format (omega (arith, count_at l before r e w (make_row t p s [] [] ∷ behind) v.rows))) ∙ f));
    }

    pub split_done : (m : List ℕ) → (Sound l → Passing l r (r + 1) n → Became l m (passed l r (r + 1) n)) → SplitOff b m r t p s n
    split_done m pass = record { is = λ c before w behind ro e f3 f0 pos enough few fits. done c before w behind ro e f3 f0 enough }
      where
        done : (c : ℕ) (before : List Row) (w : Row) (behind : List Row) → Rowed b c (before ++ (w ∷ behind)) → length before ≡ r → w.f3 ≡ [] → 0 < length w.f0 → n ≤ length w.f2
            → Rowed m c (before ++ (with_bytes w (take (length w.f2 - n) w.f2) ∷ make_row t p s (drop (length w.f2 - n) w.f2) [] ∷ behind))
        done c before w behind ro e f3 f0 enough =
            let new : Row = make_row t p s [] [] in
            let v = with_new c before w behind ro e in
            let k = count_at l before r e w (new ∷ behind) v.rows in
            let x : row_at l r ≡ w = row_at_lem l before r e w (new ∷ behind) v.rows in
            let y : row_at l (r + 1) ≡ new = row_behind l before r e w new behind v.rows in
            let d = pass v.sound (record {
              from = omega arith;
              to = omega arith;
              other = λ z. omega arith;
              last = (rw x f3, rw y refl);
              kept = rw x f0;
              enough = rw x enough;
            }) in
            record {
              sound = d.sound;
              format = d.format ∙ v.format;
              rows = d.rows ∙ rw (x, y, v.rows) (ap (replace_at (r + 1) _) (replace_here before r e _ w (new ∷ behind)) ∙ replace_behind before r e _ _ new behind);
              cap = d.cap ∙ v.cap;
            }

-- ABSORBED: the bytes of the row behind row r are passed on to it, and that row is taken out
module _ (b : List ℕ) (r : ℕ) where
  pub absorb_lost : (z : Bool) → There b (r + 1) z → z ≡ false → Absorbed b b r
  absorb_lost z th f = record {
    is = λ c before x y behind ro e fx fy f0.
        absurd (true≢false (sym (th.is ro.sound ro.format (omega (arith, count_at b before r e x (y ∷ behind) ro.rows))) ∙ f));
  }

  -- s is field 2 of that row, all of which is passed on
  module _ (l s : List ℕ) (es : Sound b → r + 1 < count_of b → s ≡ field_of (row_at b (r + 1)) 2)
      (pass : Sound b → Passing b (r + 1) r (length s) → Became b l (passed b (r + 1) r (length s))) where
    module _ (c : ℕ) (before : List Row) (x y : Row) (behind : List Row) (ro : Rowed b c (before ++ (x ∷ y ∷ behind))) (e : length before ≡ r)
        (fx : x.f3 ≡ []) (fy : y.f3 ≡ []) (f0 : 0 < length y.f0) where
      all_passed : Rowed l c (before ++ (with_bytes x (x.f2 ++ y.f2) ∷ with_bytes y [] ∷ behind))
      unfolding field_of
      all_passed =
          let k = count_at b before r e x (y ∷ behind) ro.rows in
          let ex : row_at b r ≡ x = row_at_lem b before r e x (y ∷ behind) ro.rows in
          let ey : row_at b (r + 1) ≡ y = row_behind b before r e x y behind ro.rows in
          let n : length s ≡ length y.f2 = ap length (es ro.sound (omega arith)) ∙ ap (λ (z : Row). length z.f2) ey in
          let none : length y.f2 - length s ≡ 0 = omega arith in
          let d = pass ro.sound (record {
            from = omega arith;
            to = omega arith;
            other = λ z. omega arith;
            last = (rw ey fy, rw ex fx);
            kept = rw ey f0;
            enough = rw ey (omega arith);
          }) in
          record {
            sound = d.sound;
            format = d.format ∙ ro.format;
            rows = d.rows ∙ rw (ex, ey, none, ro.rows) (ap (replace_at r _) (replace_behind before r e x _ y behind) ∙ replace_here before r e _ x _);
            cap = d.cap ∙ ro.cap;
          }

    pub absorb_stuck : (z : Bool) → There l (r + 1) z → z ≡ false → Absorbed b l r
    absorb_stuck z th f = record {
      is = λ c before x y behind ro e fx fy f0.
          let v = all_passed c before x y behind ro e fx fy f0 in
          absurd (true≢false (sym (th.is v.sound v.format (omega (arith, count_at l before r e (with_bytes x (x.f2 ++ y.f2)) (with_bytes y [] ∷ behind) v.rows))) ∙ f));
    }

    pub absorb_done : (m : List ℕ) → (Sound l → Removed l m (r + 1)) → Absorbed b m r
    absorb_done m removed = record {
      is = λ c before x y behind ro e fx fy f0.
          let v = all_passed c before x y behind ro e fx fy f0 in
          let d = removed v.sound in
          record {
            sound = d.sound;
            format = d.format ∙ v.format;
            rows = d.rows ∙ ap (remove_at (r + 1)) v.rows ∙ remove_behind before r e (with_bytes x (x.f2 ++ y.f2)) (with_bytes y []) behind;
            cap = d.cap ∙ v.cap;
          };
    }

-- RENAMED
module _ (b : List ℕ) (r t : ℕ) (s : List ℕ) where
  pub rename_lost : (z : Bool) → There b r z → z ≡ false → Renamed b b r t s
  rename_lost z th f = record {
    is = λ c before w behind ro e f3 f0 fits.
        absurd (true≢false (sym (th.is ro.sound ro.format (omega (arith, count_at b before r e w behind ro.rows))) ∙ f));
  }

  pub rename_done : (m : List ℕ) → (Sound b → Respelling b r (length s) → Became b m (replace_at r (respelled (row_at b r) t s) (rows_of b))) → Renamed b m r t s
  rename_done m respell = record {
    is = λ c before w behind ro e f3 f0 fits.
        let k = count_at b before r e w behind ro.rows in
        let x : row_at b r ≡ w = row_at_lem b before r e w behind ro.rows in
        let d = respell ro.sound (record {
          at = omega arith;
          last = rw x f3;
          kept = rw x f0;
          fits = omega (arith, rowed_used b c (before ++ (w ∷ behind)) ro, ro.cap);
        }) in
        record {
          sound = d.sound;
          format = d.format ∙ ro.format;
          rows = d.rows ∙ rw (x, ro.rows) (replace_here before r e (respelled w t s) w behind);
          cap = d.cap ∙ ro.cap;
        };
  }

-- a row renamed and a row put in, by equal tag and text
pub renamed_as : (b m : List ℕ) (r t u : ℕ) (s v : List ℕ) → u ≡ t → v ≡ s → Renamed b m r u v → Renamed b m r t s
renamed_as b m r t u s v e f h = rw (e, f) at h

pub inserted_as : (b l : List ℕ) (r t u : ℕ) (p s v : List ℕ) → u ≡ t → v ≡ s → (Sound b → Inserted b l r (make_row u p v [] [])) → Sound b → Inserted b l r (make_row t p s [] [])
inserted_as b l r t u p s v e f h so = rw (e, f) at (h so)
