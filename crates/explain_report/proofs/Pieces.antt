-- Pieces that are appended one after another, the last where memory is left.
use Rattle.std.proofs.Common.{◌≡◌, ℕ, List, [], ◌++◌, Result, Ok, Err, OnOk, ap, ◌∙◌, append_assoc}

pub two : {U E : Type 0} (r : Result U E) (t0 t1 t2 a b : List ℕ) → t1 ≡ t0 ++ a → OnOk r (t2 ≡ t1 ++ b) → OnOk r (t2 ≡ t0 ++ (a ++ b))
two (Ok u) t0 t1 t2 a b before now = now ∙ ap (λ t. t ++ b) before ∙ append_assoc t0 a b
two (Err e) t0 t1 t2 a b before now = tt

pub three : {U E : Type 0} (r : Result U E) (t0 t1 t2 t3 a b c : List ℕ)
    → t1 ≡ t0 ++ a → t2 ≡ t1 ++ b → OnOk r (t3 ≡ t2 ++ c) → OnOk r (t3 ≡ t0 ++ (a ++ (b ++ c)))
three r t0 t1 t2 t3 a b c p1 p2 p3 = two r t0 t1 t3 a (b ++ c) p1 (two r t1 t2 t3 b c p2 p3)

pub four : {U E : Type 0} (r : Result U E) (t0 t1 t2 t3 t4 a b c d : List ℕ)
    → t1 ≡ t0 ++ a → t2 ≡ t1 ++ b → t3 ≡ t2 ++ c → OnOk r (t4 ≡ t3 ++ d) → OnOk r (t4 ≡ t0 ++ (a ++ (b ++ (c ++ d))))
four r t0 t1 t2 t3 t4 a b c d p1 p2 p3 p4 = two r t0 t1 t4 a (b ++ (c ++ d)) p1 (three r t1 t2 t3 t4 b c d p2 p3 p4)

pub five : {U E : Type 0} (r : Result U E) (t0 t1 t2 t3 t4 t5 a b c d e : List ℕ)
    → t1 ≡ t0 ++ a → t2 ≡ t1 ++ b → t3 ≡ t2 ++ c → t4 ≡ t3 ++ d → OnOk r (t5 ≡ t4 ++ e) → OnOk r (t5 ≡ t0 ++ (a ++ (b ++ (c ++ (d ++ e)))))
five r t0 t1 t2 t3 t4 t5 a b c d e p1 p2 p3 p4 p5 = two r t0 t1 t5 a (b ++ (c ++ (d ++ e))) p1 (four r t1 t2 t3 t4 t5 b c d e p2 p3 p4 p5)

pub six : {U E : Type 0} (r : Result U E) (t0 t1 t2 t3 t4 t5 t6 a b c d e f : List ℕ)
    → t1 ≡ t0 ++ a → t2 ≡ t1 ++ b → t3 ≡ t2 ++ c → t4 ≡ t3 ++ d → t5 ≡ t4 ++ e → OnOk r (t6 ≡ t5 ++ f)
    → OnOk r (t6 ≡ t0 ++ (a ++ (b ++ (c ++ (d ++ (e ++ f))))))
six r t0 t1 t2 t3 t4 t5 t6 a b c d e f p1 p2 p3 p4 p5 p6 =
    two r t0 t1 t6 a (b ++ (c ++ (d ++ (e ++ f)))) p1 (five r t1 t2 t3 t4 t5 t6 b c d e f p2 p3 p4 p5 p6)

pub seven : {U E : Type 0} (r : Result U E) (t0 t1 t2 t3 t4 t5 t6 t7 a b c d e f g : List ℕ)
    → t1 ≡ t0 ++ a → t2 ≡ t1 ++ b → t3 ≡ t2 ++ c → t4 ≡ t3 ++ d → t5 ≡ t4 ++ e → t6 ≡ t5 ++ f → OnOk r (t7 ≡ t6 ++ g)
    → OnOk r (t7 ≡ t0 ++ (a ++ (b ++ (c ++ (d ++ (e ++ (f ++ g)))))))
seven r t0 t1 t2 t3 t4 t5 t6 t7 a b c d e f g p1 p2 p3 p4 p5 p6 p7 =
    two r t0 t1 t7 a (b ++ (c ++ (d ++ (e ++ (f ++ g))))) p1 (six r t1 t2 t3 t4 t5 t6 t7 b c d e f g p2 p3 p4 p5 p6 p7)

-- A line of so many pieces, made in a text of its own and then appended.
pub line_of_three : {U E : Type 0} (r : Result U E) (old now t0 t1 t2 t3 a b c : List ℕ)
    → t0 ≡ [] → t1 ≡ t0 ++ a → t2 ≡ t1 ++ b → t3 ≡ t2 ++ c → OnOk r (now ≡ old ++ t3) → OnOk r (now ≡ old ++ (a ++ (b ++ c)))
line_of_three (Ok u) old now t0 t1 t2 t3 a b c p0 p1 p2 p3 appended =
    let line : t3 ≡ (a ++ b) ++ c = p3 ∙ ap (λ t. t ++ c) (p2 ∙ ap (λ t. t ++ b) (p1 ∙ ap (λ t. t ++ a) p0)) in
    appended ∙ ap (λ t. old ++ t) (line ∙ append_assoc a b c)
line_of_three (Err e) old now t0 t1 t2 t3 a b c p0 p1 p2 p3 appended = tt

pub line_of_five : {U E : Type 0} (r : Result U E) (old now t0 t1 t2 t3 t4 t5 a b c d e : List ℕ)
    → t0 ≡ [] → t1 ≡ t0 ++ a → t2 ≡ t1 ++ b → t3 ≡ t2 ++ c → t4 ≡ t3 ++ d → t5 ≡ t4 ++ e → OnOk r (now ≡ old ++ t5)
    → OnOk r (now ≡ old ++ (a ++ (b ++ (c ++ (d ++ e)))))
line_of_five r old now t0 t1 t2 t3 t4 t5 a b c d e p0 p1 p2 p3 p4 p5 appended =
    let tail : t5 ≡ t2 ++ (c ++ (d ++ e)) =
    p5 ∙ ap (λ t. t ++ e) p4 ∙ append_assoc t3 d e ∙ ap (λ t. t ++ (d ++ e)) p3 ∙ append_assoc t2 c (d ++ e) in
    line_of_three r old now t0 t1 t2 t5 a b (c ++ (d ++ e)) p0 p1 p2 tail appended

pub line_of_eight : {U E : Type 0} (r : Result U E) (old now t0 t1 t2 t3 t4 t5 t6 t7 t8 a b c d e f g h : List ℕ)
    → t0 ≡ [] → t1 ≡ t0 ++ a → t2 ≡ t1 ++ b → t3 ≡ t2 ++ c → t4 ≡ t3 ++ d → t5 ≡ t4 ++ e → t6 ≡ t5 ++ f → t7 ≡ t6 ++ g → t8 ≡ t7 ++ h
    → OnOk r (now ≡ old ++ t8) → OnOk r (now ≡ old ++ (a ++ (b ++ (c ++ (d ++ (e ++ (f ++ (g ++ h))))))))
line_of_eight r old now t0 t1 t2 t3 t4 t5 t6 t7 t8 a b c d e f g h p0 p1 p2 p3 p4 p5 p6 p7 p8 appended =
    let last : t8 ≡ t5 ++ (f ++ (g ++ h)) =
    p8 ∙ ap (λ t. t ++ h) p7 ∙ append_assoc t6 g h ∙ ap (λ t. t ++ (g ++ h)) p6 ∙ append_assoc t5 f (g ++ h) in
    let tail : t8 ≡ t3 ++ (d ++ (e ++ (f ++ (g ++ h)))) =
    last ∙ ap (λ t. t ++ (f ++ (g ++ h))) p5 ∙ append_assoc t4 e (f ++ (g ++ h)) ∙ ap (λ t. t ++ (e ++ (f ++ (g ++ h)))) p4 ∙ append_assoc t3 d (e ++ (f ++ (g ++ h))) in
    let rest : t8 ≡ t2 ++ (c ++ (d ++ (e ++ (f ++ (g ++ h))))) =
    tail ∙ ap (λ t. t ++ (d ++ (e ++ (f ++ (g ++ h))))) p3 ∙ append_assoc t2 c (d ++ (e ++ (f ++ (g ++ h)))) in
    line_of_three r old now t0 t1 t2 t8 a b (c ++ (d ++ (e ++ (f ++ (g ++ h))))) p0 p1 p2 rest appended
