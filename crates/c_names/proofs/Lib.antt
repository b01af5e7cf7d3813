mod Originals
mod Lists
mod Scopes
mod Declared
