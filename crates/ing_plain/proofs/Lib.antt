mod Lists
mod PlainLaws
mod PlainSeals
