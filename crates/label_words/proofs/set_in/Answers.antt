use mathlib.Core.Path.{◌≡◌, refl, ap, ◌∙◌}
use Prim.Native.Nat.{ℕ, ◌+◌, ◌-◌}
use native.Mathlib.Omega.{arith}
use lib.ListN.{get_or}
use Rattle.std.specs.Prelude.{None, Some, Err}
use Rattle.refusal.specs.declared.Refusal.TheVariants.{NotReadable}
use Rattle.format.specs.Number.{order_by}
use Rattle.format.specs.Edition.{n_value_label_names, n_value_labels}
use Rattle.editions.specs.Editions.{numbers_of}
use Rattle.questions.specs.Ask.{unlabelled, refused, labels, start_of}
use Rattle.reading.specs.Reads.{read_by, length_in, place_in}
use Rattle.reading.proofs.ReadLaws.{read_none, read_got, place_is, place_past}
use Rattle.reading.proofs.PlaceLaws.{list_place, start_is, end_is, part_more}
use Rattle.checking.specs.Checks.{layout_by}
use Rattle.label_words.specs.Words.{set_said}
use Rattle.label_words.proofs.WordLaws.{set_as, set_past, set_none, set_inside, set_empty, set_walk, set_over}
use Rattle.label_words.proofs.set_in.Goals as goal

pub returns-in_err-p : goal.returns-in_err-p
returns-in_err-p c =
    let a = c.args in
    let f = a.f.now in
    let l = layout_by a.l in
    let e = numbers_of a.e in
    let o = order_by a.msf in
    let field = c.place_in.ensures
    ∙ ap (λ (x : ℕ). read_by (place_in f x))
    (list_place e.tagged n_value_label_names 19 (get_or a.l.places 6 0) c.tag_size-gap.result c.less.result (a.i - 1) e.name_width refl c.tag_size-gap.ensures c.less.ensures.0) in
    let z : None ≡ c.place_in.result = grind arith in
    let r : c.from_residual.result ≡ Err NotReadable = grind arith in
    set_as _ (refused 17) (set_said e o f l a.i) r (set_past e o f l a.i (place_past f _ (z ∙ field)))

pub returns-in_err-n : goal.returns-in_err-n
returns-in_err-n c =
    let a = c.args in
    let f = a.f.now in
    let l = layout_by a.l in
    let e = numbers_of a.e in
    let o = order_by a.msf in
    let field = c.place_in.ensures
    ∙ ap (λ (x : ℕ). read_by (place_in f x))
    (list_place e.tagged n_value_label_names 19 (get_or a.l.places 6 0) c.tag_size-gap.result c.less.result (a.i - 1) e.name_width refl c.tag_size-gap.ensures c.less.ensures.0) in
    let p = c.in_ok-p.p in
    let z : Some p ≡ c.place_in.result = grind arith in
    let v = place_is f _ p (z ∙ field) in
    let named = c.text_in.ensures ∙ ap (λ (x : ℕ). read_by (length_in e.name_width f x)) v in
    let y : None ≡ c.text_in.result = grind arith in
    let r : c.from_residual-in_err-n.result ≡ Err NotReadable = grind arith in
    set_as _ (refused 17) (set_said e o f l a.i) r (set_none e o f l a.i (read_none _ (y ∙ named)))

pub returns-then-n-eq0 : goal.returns-then-n-eq0
returns-then-n-eq0 c =
    let a = c.args in
    let f = a.f.now in
    let l = layout_by a.l in
    let e = numbers_of a.e in
    let o = order_by a.msf in
    let field = c.place_in.ensures
    ∙ ap (λ (x : ℕ). read_by (place_in f x))
    (list_place e.tagged n_value_label_names 19 (get_or a.l.places 6 0) c.tag_size-gap.result c.less.result (a.i - 1) e.name_width refl c.tag_size-gap.ensures c.less.ensures.0) in
    let p = c.in_ok-p.p in
    let z : Some p ≡ c.place_in.result = grind arith in
    let v = place_is f _ p (z ∙ field) in
    let named = c.text_in.ensures ∙ ap (λ (x : ℕ). read_by (length_in e.name_width f x)) v in
    let n = c.in_ok-n.n in
    let y : Some n ≡ c.text_in.result = grind arith in
    let long = read_got n _ (y ∙ named) in
    set_as _ (labels unlabelled) (set_said e o f l a.i) refl (set_empty e o f l a.i _ long c.if-n-eq0.true)

pub returns-then-end-l : goal.returns-then-end-l
returns-then-end-l c =
    let a = c.args in
    let f = a.f.now in
    let l = layout_by a.l in
    let e = numbers_of a.e in
    let o = order_by a.msf in
    let field = c.place_in.ensures
    ∙ ap (λ (x : ℕ). read_by (place_in f x))
    (list_place e.tagged n_value_label_names 19 (get_or a.l.places 6 0) c.tag_size-gap.result c.less.result (a.i - 1) e.name_width refl c.tag_size-gap.ensures c.less.ensures.0) in
    let p = c.in_ok-p.p in
    let z : Some p ≡ c.place_in.result = grind arith in
    let v = place_is f _ p (z ∙ field) in
    let named = c.text_in.ensures ∙ ap (λ (x : ℕ). read_by (length_in e.name_width f x)) v in
    let n = c.in_ok-n.n in
    let y : Some n ≡ c.text_in.result = grind arith in
    let long = read_got n _ (y ∙ named) in
    let ended = end_is e.tagged n_value_labels 15 (get_or a.l.places 12 0) c.tag_size.result c.less-end.result refl c.tag_size.ensures c.less-end.ensures.0 in
    set_as _ (labels unlabelled) (set_said e o f l a.i) refl
    (set_over e o f l a.i _ long c.if-n-eq0.false _ (start_of e.tagged l 11 n_value_labels) _ v refl ended (omega (arith, c.if-end-l.true)))

pub overflow_add-start : goal.overflow_add-start
overflow_add-start c =
    let a = c.args in
    let m = part_more a.e.tagged 14 15 c.tag_size-2.result c.tag_size.result (omega arith) c.tag_size-2.ensures c.tag_size.ensures in
    omega (arith, m, c.if-end-l.false, c.less-end.ensures.0, c.less-end.ensures.1)

pub find_block-requires : goal.find_block-requires
find_block-requires c =
    let a = c.args in
    let f = a.f.now in
    let l = layout_by a.l in
    let e = numbers_of a.e in
    let o = order_by a.msf in
    let field = c.place_in.ensures
    ∙ ap (λ (x : ℕ). read_by (place_in f x))
    (list_place e.tagged n_value_label_names 19 (get_or a.l.places 6 0) c.tag_size-gap.result c.less.result (a.i - 1) e.name_width refl c.tag_size-gap.ensures c.less.ensures.0) in
    let p = c.in_ok-p.p in
    let z : Some p ≡ c.place_in.result = grind arith in
    let v = place_is f _ p (z ∙ field) in
    let named = c.text_in.ensures ∙ ap (λ (x : ℕ). read_by (length_in e.name_width f x)) v in
    let n = c.in_ok-n.n in
    let y : Some n ≡ c.text_in.result = grind arith in
    let long = read_got n _ (y ∙ named) in
    let i = set_inside e o f l a.i _ long in
    (omega (arith, i, v), c.requires)

pub returns : goal.returns
returns c =
    let a = c.args in
    let f = a.f.now in
    let l = layout_by a.l in
    let e = numbers_of a.e in
    let o = order_by a.msf in
    let field = c.place_in.ensures
    ∙ ap (λ (x : ℕ). read_by (place_in f x))
    (list_place e.tagged n_value_label_names 19 (get_or a.l.places 6 0) c.tag_size-gap.result c.less.result (a.i - 1) e.name_width refl c.tag_size-gap.ensures c.less.ensures.0) in
    let p = c.in_ok-p.p in
    let z : Some p ≡ c.place_in.result = grind arith in
    let v = place_is f _ p (z ∙ field) in
    let named = c.text_in.ensures ∙ ap (λ (x : ℕ). read_by (length_in e.name_width f x)) v in
    let n = c.in_ok-n.n in
    let y : Some n ≡ c.text_in.result = grind arith in
    let long = read_got n _ (y ∙ named) in
    let ended = end_is e.tagged n_value_labels 15 (get_or a.l.places 12 0) c.tag_size.result c.less-end.result refl c.tag_size.ensures c.less-end.ensures.0 in
    let s = get_or a.l.places 11 0 in
    let S = start_is e.tagged n_value_labels 14 s c.tag_size-2.result refl c.tag_size-2.ensures in
    set_as _ _ (set_said e o f l a.i) c.find_block.ensures (set_walk e o f l a.i _ long c.if-n-eq0.false _ (s + c.tag_size-2.result) _ v S ended)
