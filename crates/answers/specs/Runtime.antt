-- What `runtime` prints.
use Rattle.std.specs.Prelude.{◌≡◌, ℕ, List, [], ◌∷◌, codes, ⊤}
use Rattle.answers.specs.Causes.{Causes}
use Rattle.answers.specs.Traced.{lined}

-- the C text of the calls of monitors: a monitor counts the tokens that are taken from it, and a thread that finds none
-- waits until one is given
abbrev pub runtime_lines : List (List ℕ)
runtime_lines =
    codes "#include <pthread.h>" ∷
    codes "#include <stdarg.h>" ∷
    codes "extern int gd_cap[];" ∷
    codes "static pthread_mutex_t gd_lock = PTHREAD_MUTEX_INITIALIZER;" ∷
    codes "static pthread_cond_t gd_free = PTHREAD_COND_INITIALIZER;" ∷
    codes "static int gd_used[16];" ∷
    codes "" ∷
    codes "void gd_take(int k) {" ∷
    codes "    pthread_mutex_lock(&gd_lock);" ∷
    codes "    while (gd_used[k] >= gd_cap[k]) {" ∷
    codes "        pthread_cond_wait(&gd_free, &gd_lock);" ∷
    codes "    }" ∷
    codes "    gd_used[k] = gd_used[k] + 1;" ∷
    codes "    pthread_mutex_unlock(&gd_lock);" ∷
    codes "}" ∷
    codes "" ∷
    codes "void gd_give(int k) {" ∷
    codes "    pthread_mutex_lock(&gd_lock);" ∷
    codes "    gd_used[k] = gd_used[k] - 1;" ∷
    codes "    pthread_cond_broadcast(&gd_free);" ∷
    codes "    pthread_mutex_unlock(&gd_lock);" ∷
    codes "}" ∷
    codes "" ∷
    codes "void gd_cond_wait(pthread_cond_t *c, pthread_mutex_t *m, ...) {" ∷
    codes "    va_list list;" ∷
    codes "    int k;" ∷
    codes "    pthread_cond_wait(c, m);" ∷
    codes "    pthread_mutex_unlock(m);" ∷
    codes "    va_start(list, m);" ∷
    codes "    for (k = va_arg(list, int); k >= 0; k = va_arg(list, int)) {" ∷
    codes "        gd_take(k);" ∷
    codes "    }" ∷
    codes "    va_end(list);" ∷
    codes "    pthread_mutex_lock(m);" ∷
    codes "}" ∷
    []

-- it has no files, and always the same answer
abbrev pub causes : Causes
causes = record {
  accepted = ⊤;
  done = λ told. told ≡ lined runtime_lines;
  no = λ told. ⊥;
  refused = λ told. ⊥;
  limit = λ told. ⊥;
  no_monitor = λ told. ⊥;
}
