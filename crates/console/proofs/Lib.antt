mod Known
mod Letters
